-- The samples of a window by labels, told by the runs of a store.
use Rattle.std.proofs.Common.{◌≡◌, ℕ, ℤ, true, List, [], ◌∷◌, ◌++◌, cond, map, Option, Some, None, fold, refl, ap, sym, ◌∙◌, append_assoc, append-nil, unwrap_or, Result, Ok, Err, IfOk}
use Rattle.std.specs.declared.cmp.Ordering.TheVariants.{Less, Greater}
use Rattle.std.specs.Cmp.{tied_itself, first_so, second_so}
use Rattle.std.specs.FinMap.Entries.{by_order, below_all, is_sorted}
use Rattle.std.specs.List.{AllByRecursion, flat_map}
use Rattle.std.specs.Ordering.{is_eq, ordering_reverse}
use Rattle.std.proofs.lemmas.List.Sums.{fold-append}
use Rattle.op_base.specs.declared.matcher.Matcher.{Matcher}
use Rattle.op_base.specs.Labels.{Texts, labels_cmp}
use Rattle.srv_store.specs.declared.addition.Addition.{Addition}
use Rattle.srv_store.specs.LabelMaps.{LabelMap, value_of, with_value}
use Rattle.op_base.specs.Maps.{members_at}
use Rattle.srv_store.specs.Stores.{Store, Point, point_of, with_point, ranged}
use Rattle.srv_store.specs.Runs.{Run, run_at, entries_of, reading_entry, window_in, selected_of, samples_in, series_entry, ranged_of, IsKept, AreFound}
use Rattle.srv_store.proofs.OrderLemmas.{labels_total}
use Rattle.srv_store.proofs.PlaceLemmas.{is_less}
use Rattle.srv_store.proofs.SelectedLemmas.{selected_told}

-- all label sets of a map stand before another
abbrev Before : Texts → LabelMap (List Point) → Type 0
Before L M = AllByRecursion (λ m. labels_cmp L m.0 ≡ Greater) M

module _ (L : Texts) where
  find_behind : (M rest : LabelMap (List Point)) → Before L M → value_of (M ++ rest) L ≡ value_of rest L
  find_behind [] rest before = refl
  find_behind (m ∷ M) rest before = ap (λ r. cond (is_eq r) (Some m.1) (value_of (M ++ rest) L)) before.0 ∙ find_behind M rest before.1

  put_behind : (M rest : LabelMap (List Point)) (samples : List Point) → Before L M → with_value (M ++ rest) L samples ≡ M ++ with_value rest L samples
  put_behind [] rest samples before = refl
  put_behind (m ∷ M) rest samples before =
      ap (λ r. by_order r ((L, samples) ∷ m ∷ (M ++ rest)) ((m.0, samples) ∷ (M ++ rest)) (m ∷ with_value (M ++ rest) L samples)) before.0
      ∙ ap (λ l. m ∷ l) (put_behind M rest samples before.1)

  own_members : (samples : List Point) → unwrap_or (value_of (series_entry L samples) L) [] ≡ samples
  own_members [] = refl
  own_members (s ∷ samples) = ap (λ r. unwrap_or (cond (is_eq r) (Some (s ∷ samples)) None) []) (tied_itself labels_total L)

  own_put : (samples : List Point) (s : Point) → with_value (series_entry L samples) L (samples ++ s ∷ []) ≡ series_entry L (samples ++ s ∷ [])
  own_put [] s = refl
  own_put (r ∷ samples) s =
      ap (λ o. by_order o ((L, r ∷ samples ++ s ∷ []) ∷ (L, r ∷ samples) ∷ []) ((L, r ∷ samples ++ s ∷ []) ∷ []) ((L, r ∷ samples) ∷ (L, r ∷ samples ++ s ∷ []) ∷ [])) (tied_itself labels_total L)

  -- one sample more of the last label set
  last_sample : (M : LabelMap (List Point)) (samples : List Point) (s : Point) → Before L M
      → with_value (M ++ series_entry L samples) L (members_at labels_cmp (M ++ series_entry L samples) L ++ s ∷ []) ≡ M ++ series_entry L (samples ++ s ∷ [])
  last_sample M samples s before =
      ap (λ o. with_value (M ++ series_entry L samples) L (unwrap_or o [] ++ s ∷ [])) (find_behind M (series_entry L samples) before)
      ∙ ap (λ l. with_value (M ++ series_entry L samples) L (l ++ s ∷ [])) (own_members samples)
      ∙ put_behind M (series_entry L samples) (samples ++ s ∷ []) before
      ∙ ap (λ l. M ++ l) (own_put samples s)

  run_series : (M : LabelMap (List Point)) (samples : List Point) (run : Run) → Before L M
      → fold with_point (M ++ series_entry L samples) (map (reading_entry L) run) ≡ M ++ series_entry L (samples ++ samples_in run)
  run_series M samples [] before = ap (λ l. M ++ series_entry L l) (sym (append-nil samples))
  run_series M samples (r ∷ run) before = next (λ more. run_series M more run before) r.1 refl
    where
      next : ((more : List Point) → fold with_point (M ++ series_entry L more) (map (reading_entry L) run) ≡ M ++ series_entry L (more ++ samples_in run))
          → (value : Option ℤ) → r.1 ≡ value
          → fold with_point (M ++ series_entry L samples) (map (reading_entry L) (r ∷ run)) ≡ M ++ series_entry L (samples ++ samples_in (r ∷ run))
      next rest None is =
          ap (λ v. fold with_point (with_point (M ++ series_entry L samples) (reading_entry L (r.0, v))) (map (reading_entry L) run)) is
          ∙ rest samples
          ∙ ap (λ v. M ++ series_entry L (samples ++ (point_of v r.0 ++ samples_in run))) (sym is)
      next rest (Some v) is =
          ap (λ v. fold with_point (with_point (M ++ series_entry L samples) (reading_entry L (r.0, v))) (map (reading_entry L) run)) is
          ∙ ap (λ l. fold with_point l (map (reading_entry L) run)) (last_sample M samples (r.0, v) before)
          ∙ rest (samples ++ (r.0, v) ∷ [])
          ∙ ap (λ l. M ++ series_entry L l) (append_assoc samples ((r.0, v) ∷ []) (samples_in run))
          ∙ ap (λ v. M ++ series_entry L (samples ++ (point_of v r.0 ++ samples_in run))) (sym is)

-- what stands before a label set stands before the later ones
before_later : (L K : Texts) (M : LabelMap (List Point)) → labels_cmp L K ≡ Less → Before L M → Before K M
before_later L K [] less before = tt
before_later L K (m ∷ M) less before =
    let back : labels_cmp m.0 L ≡ Less = labels_total.antisymm m.0 L ∙ ap ordering_reverse before.0 in
    (labels_total.antisymm K m.0 ∙ ap ordering_reverse (labels_total.trans m.0 L K back less), before_later L K M less before.1)

before_entry : (L K : Texts) (M : LabelMap (List Point)) (samples : List Point) → labels_cmp L K ≡ Less → Before L M → Before K (M ++ series_entry L samples)
before_entry L K [] [] less before = tt
before_entry L K [] (s ∷ samples) less before = (labels_total.antisymm K L ∙ ap ordering_reverse less, tt)
before_entry L K (m ∷ M) samples less before = ((before_later L K (m ∷ M) less before).0, before_entry L K M samples less before.1)

-- all that is left stands behind a map
abbrev Behind : LabelMap (List Point) → LabelMap ℕ → Type 0
Behind M [] = Unit {0}
Behind M (f ∷ found) = Before f.0 M

module _ (runs : List Run) (from to : ℤ) where
  all_series : (M : LabelMap (List Point)) (found : LabelMap ℕ) → is_sorted labels_cmp found ≡ true → Behind M found
      → fold with_point M (flat_map (selected_of runs from to) found) ≡ M ++ flat_map (ranged_of runs from to) found
  all_series M [] sorted behind = sym (append-nil M)
  all_series M (f ∷ found) sorted behind =
      let run = window_in from to (run_at runs f.1) in
      fold-append with_point M (map (reading_entry f.0) run) (flat_map (selected_of runs from to) found)
      ∙ ap (λ l. fold with_point l (flat_map (selected_of runs from to) found)) (ap (λ l. fold with_point l (map (reading_entry f.0) run)) (sym (append-nil M)) ∙ run_series f.0 M [] run behind)
      ∙ all_series (M ++ ranged_of runs from to f) found (second_so _ _ sorted) (next found (first_so _ _ sorted))
      ∙ append_assoc M (ranged_of runs from to f) (flat_map (ranged_of runs from to) found)
    where
      next : (found : LabelMap ℕ) → below_all labels_cmp f.0 found ≡ true → Behind (M ++ ranged_of runs from to f) found
      next [] below = tt
      next (g ∷ found) below = before_entry f.0 g.0 M (samples_in (window_in from to (run_at runs f.1))) (is_less _ (first_so _ _ below)) behind

pub ranged_told : {keys : List Texts} {runs : List Run} {log : List Addition} (matchers : List Matcher) (from to : ℤ) (found : LabelMap ℕ) → IsKept keys runs log → AreFound keys matchers found
    → flat_map (ranged_of runs from to) found ≡ ranged (entries_of keys log) matchers from to
ranged_told {keys} {runs} {log} matchers from to found k f =
    sym (all_series runs from to [] found f.rises (start found))
    ∙ ap (fold with_point []) (selected_told matchers from to found k f)
  where
    start : (found : LabelMap ℕ) → Behind [] found
    start [] = tt
    start (f ∷ found) = tt

pub ranged_answer : {E : Type 0} (r : Result (LabelMap (List Point)) E) {keys : List Texts} {runs : List Run} {log : List Addition} (slice : List Run) (store : Store) (matchers : List Matcher) (from to : ℤ) (found : LabelMap ℕ)
    → IsKept keys runs log → AreFound keys matchers found → slice ≡ runs → entries_of keys log ≡ store
    → IfOk r (λ entries. entries ≡ flat_map (ranged_of slice from to) found) → IfOk r (λ entries. entries ≡ ranged store matchers from to)
ranged_answer (Ok entries) slice store matchers from to found k f same seen is =
    is ∙ ap (λ runs. flat_map (ranged_of runs from to) found) same ∙ ranged_told matchers from to found k f ∙ ap (λ store. ranged store matchers from to) seen
ranged_answer (Err e) slice store matchers from to found k f same seen is = tt
