-- The entries of a window by labels and moments, told by the runs of a store.
use Rattle.std.proofs.Common.{◌≡◌, ℕ, ◌<◌, ℤ, Bool, true, false, ◌&&◌, List, [], ◌∷◌, ◌++◌, cond, map, length, Option, Some, None, is_some, if◌then◌else◌, nat_eq, fold, option_map, refl, ap, sym, subst, ◌∙◌, eqb-true, Result, Ok, Err, IfOk}
use mathlib.Core.Bool.{true≢false}
use Rattle.std.specs.declared.cmp.Ordering.{Ordering}
use Rattle.std.specs.declared.cmp.Ordering.TheVariants.{Less, Equal, Greater}
use Rattle.std.specs.Cmp.{IsTotalOrder, tied_itself, then_total, on_total, int_cmp_total, first_so, second_so}
use Rattle.std.specs.FinMap.Entries.{find, put, below_all, is_sorted, is_sorted-put, is_sorted-where_key, find-put, find-where_key, same_entries}
use Rattle.std.specs.List.{AllByRecursion, IsDistinct, flat_map}
use Rattle.std.specs.Option.{option_or}
use Rattle.std.specs.Ordering.{is_lt, is_eq, eq_by_cmp, ordering_then}
use Rattle.op_base.specs.declared.matcher.Matcher.{Matcher}
use Rattle.op_base.specs.declared.moment.Moment.{Moment}
use Rattle.op_base.specs.Labels.{Texts, labels_cmp, labels_ties}
use Rattle.srv_store.specs.declared.addition.Addition.{Addition}
use Rattle.srv_store.specs.declared.entry.Entry.{Entry}
use Rattle.srv_store.specs.LabelMaps.{LabelMap, value_of}
use Rattle.srv_store.specs.Stores.{Store, same_labels, all_hold, is_within, window, Place, place_cmp, at_place, entry_at, selected}
use Rattle.op_base.specs.Maps.{put_all, in_order}
use Rattle.srv_store.specs.Runs.{Run, IsRun, moment_cmp, key_at, run_at, entry_of, entries_of, reading_entry, over_reading, over_added, window_in, selected_of, IsKept, AreFound}
use Rattle.srv_store.proofs.OrderLemmas.{labels_same, labels_total, first_equal, second_equal}
use Rattle.srv_store.proofs.PlaceLemmas.{test_of, true_of, is_less, is_tied, both_so, find_under}
use Rattle.srv_store.proofs.KeptLemmas.{number_told, moments_total, run_sorted}
use Rattle.srv_store.proofs.NewestLemmas.{same_moments}

pub places_total : IsTotalOrder place_cmp
places_total = then_total (on_total (λ (place : Place). place.0) labels_total) (on_total (λ (place : Place). place.1.0) int_cmp_total)

-- places that tie are the same
pub same_places : (this that : Place) → place_cmp this that ≡ Equal → this ≡ that
same_places this that tie = λ i. (
  labels_same this.0 that.0 (first_equal (labels_cmp this.0 that.0) (moment_cmp this.1 that.1) tie) i,
  same_moments this.1 that.1 (second_equal (labels_cmp this.0 that.0) (moment_cmp this.1 that.1) tie) i,
)

-- ---- lists that are joined
module _ {K X : Type 0} (R : K → K → Ordering) where
  find_joined : (q : K) (es fs : List (K × X)) → find R q (es ++ fs) ≡ option_or (find R q es) (find R q fs)
  find_joined q [] fs = refl
  find_joined q (e ∷ es) fs =
      elim (eq_by_cmp R q e.0) as (λ b. cond b (Some e.1) (find R q (es ++ fs)) ≡ option_or (cond b (Some e.1) (find R q es)) (find R q fs)) [
        | true ↦ refl
        | false ↦ find_joined q es fs
      ]

  below_joined : (x : K) (es fs : List (K × X)) → below_all R x es ≡ true → below_all R x fs ≡ true → below_all R x (es ++ fs) ≡ true
  below_joined x [] fs h k = k
  below_joined x (e ∷ es) fs h k = both_so _ _ (first_so _ _ h) (below_joined x es fs (second_so _ _ h) k)

  sorted_joined : (es fs : List (K × X)) → is_sorted R es ≡ true → is_sorted R fs ≡ true → AllByRecursion (λ e. below_all R e.0 fs ≡ true) es → is_sorted R (es ++ fs) ≡ true
  sorted_joined [] fs h k below = k
  sorted_joined (e ∷ es) fs h k below =
      both_so _ _ (below_joined e.0 es fs (first_so _ _ h) below.0) (sorted_joined es fs (second_so _ _ h) k below.1)

-- the readings of a label set, each with its place
abbrev placed_at : Texts → Run → List (Place × Entry)
placed_at L run = map (λ reading. ((L, reading.0), reading_entry L reading)) run

module _ (L : Texts) where
  below_placed : (t : Moment) (run : Run) → below_all moment_cmp t run ≡ true → below_all place_cmp (L, t) (placed_at L run) ≡ true
  below_placed t [] below = refl
  below_placed t (r ∷ run) below =
      both_so _ _ (ap (λ o. is_lt (ordering_then o (moment_cmp t r.0))) (tied_itself labels_total L) ∙ first_so _ _ below) (below_placed t run (second_so _ _ below))

  sorted_placed : (run : Run) → IsRun run → is_sorted place_cmp (placed_at L run) ≡ true
  sorted_placed [] sorted = refl
  sorted_placed (r ∷ run) sorted = both_so _ _ (below_placed r.0 run (first_so _ _ sorted)) (sorted_placed run (second_so _ _ sorted))

  -- below a greater label set
  below_greater : (K : Texts) (t : Moment) (run : Run) → labels_cmp L K ≡ Less → below_all place_cmp (L, t) (placed_at K run) ≡ true
  below_greater K t [] less = refl
  below_greater K t (r ∷ run) less = both_so _ _ (ap (λ o. is_lt (ordering_then o (moment_cmp t r.0))) less) (below_greater K t run less)

  find_placed : (t : Moment) (run : Run) → find place_cmp (L, t) (placed_at L run) ≡ option_map (λ value. reading_entry L (t, value)) (find moment_cmp t run)
  find_placed t [] = refl
  find_placed t (r ∷ run) =
      ap (λ o. cond (is_eq (ordering_then o (moment_cmp t r.0))) (Some (reading_entry L r)) (find place_cmp (L, t) (placed_at L run))) (tied_itself labels_total L)
      ∙ elim (eq_by_cmp moment_cmp t r.0) as (λ b. eq_by_cmp moment_cmp t r.0 ≡ b → cond b (Some (reading_entry L r)) (find place_cmp (L, t) (placed_at L run))
      ≡ option_map (λ value. reading_entry L (t, value)) (cond b (Some r.1) (find moment_cmp t run))) [
        | true ↦ λ tie. ap (λ m. Some (reading_entry L (m, r.1))) (sym (same_moments t r.0 (is_tied _ tie)))
        | false ↦ λ _. find_placed t run
      ] refl

  find_apart : (K : Texts) (t : Moment) (run : Run) → eq_by_cmp labels_cmp L K ≡ false → find place_cmp (L, t) (placed_at K run) ≡ None
  find_apart K t [] apart = refl
  find_apart K t (r ∷ run) apart =
      ap (λ b. cond b (Some (reading_entry K r)) (find place_cmp (L, t) (placed_at K run))) (no_tie (labels_cmp L K) (moment_cmp t r.0) apart) ∙ find_apart K t run apart
    where
      no_tie : (o p : Ordering) → is_eq o ≡ false → is_eq (ordering_then o p) ≡ false
      no_tie Less p h = refl
      no_tie Equal p h = absurd (true≢false h)
      no_tie Greater p h = refl

module _ (runs : List Run) (from to : ℤ) (each_run : (n : ℕ) → IsRun (run_at runs n)) where
  -- the window of a run that was found, each entry with its place
  abbrev placed_of : Texts × ℕ → List (Place × Entry)
  placed_of f = placed_at f.0 (window_in from to (run_at runs f.1))

  sorted_window : (n : ℕ) → IsRun (window_in from to (run_at runs n))
  sorted_window n = true_of _ (is_sorted-where_key moment_cmp (is_within from to) (run_at runs n) (test_of (each_run n)))

  below_rest : (L : Texts) (t : Moment) (found : LabelMap ℕ) → below_all labels_cmp L found ≡ true → below_all place_cmp (L, t) (flat_map placed_of found) ≡ true
  below_rest L t [] below = refl
  below_rest L t (f ∷ found) below =
      below_joined place_cmp (L, t) (placed_of f) (flat_map placed_of found)
      (below_greater L f.0 t (window_in from to (run_at runs f.1)) (is_less _ (first_so _ _ below)))
      (below_rest L t found (second_so _ _ below))

  all_below : (L : Texts) (run : Run) (found : LabelMap ℕ) → below_all labels_cmp L found ≡ true → AllByRecursion (λ e. below_all place_cmp e.0 (flat_map placed_of found) ≡ true) (placed_at L run)
  all_below L [] found below = tt
  all_below L (r ∷ run) found below = (below_rest L r.0 found below, all_below L run found below)

  sorted_all : (found : LabelMap ℕ) → is_sorted labels_cmp found ≡ true → is_sorted place_cmp (flat_map placed_of found) ≡ true
  sorted_all [] sorted = refl
  sorted_all (f ∷ found) sorted =
      sorted_joined place_cmp (placed_of f) (flat_map placed_of found)
      (sorted_placed f.0 (window_in from to (run_at runs f.1)) (sorted_window f.1))
      (sorted_all found (second_so _ _ sorted))
      (all_below f.0 (window_in from to (run_at runs f.1)) found (first_so _ _ sorted))

  -- the reading of a run at a moment of the window
  abbrev read_at : Texts → Moment → ℕ → Option Entry
  read_at L t n = if is_within from to t then option_map (λ value. reading_entry L (t, value)) (find moment_cmp t (run_at runs n)) else None

  abbrev read_found : Texts → Moment → Option ℕ → Option Entry
  read_found L t None = None
  read_found L t (Some n) = read_at L t n

  find_window : (L : Texts) (t : Moment) (n : ℕ) → find place_cmp (L, t) (placed_at L (window_in from to (run_at runs n))) ≡ read_at L t n
  find_window L t n =
      find_placed L t (window_in from to (run_at runs n))
      ∙ ap (option_map (λ value. reading_entry L (t, value))) (find-where_key moment_cmp (is_within from to) t (λ m tie. ap (is_within from to) (sym (same_moments t m tie))) (run_at runs n))
      ∙ elim (is_within from to t) as (λ b. option_map (λ value. reading_entry L (t, value)) (cond b (find moment_cmp t (run_at runs n)) None)
      ≡ (if b then option_map (λ value. reading_entry L (t, value)) (find moment_cmp t (run_at runs n)) else None)) [ true ↦ refl | false ↦ refl ]

  or_none : {A : Type 0} (o : Option A) → option_or o None ≡ o
  or_none None = refl
  or_none (Some x) = refl

  find_all : (L : Texts) (t : Moment) (found : LabelMap ℕ) → is_sorted labels_cmp found ≡ true → find place_cmp (L, t) (flat_map placed_of found) ≡ read_found L t (value_of found L)
  find_all L t [] sorted = refl
  find_all L t (f ∷ found) sorted =
      find_joined place_cmp (L, t) (placed_of f) (flat_map placed_of found)
      ∙ ap (option_or (find place_cmp (L, t) (placed_of f))) (find_all L t found (second_so _ _ sorted))
      ∙ elim (eq_by_cmp labels_cmp L f.0) as (λ b. eq_by_cmp labels_cmp L f.0 ≡ b → option_or (find place_cmp (L, t) (placed_of f)) (read_found L t (value_of found L)) ≡ read_found L t (cond b (Some f.1) (value_of found L))) [
        | true ↦ λ tie.
            let same : L ≡ f.0 = labels_same L f.0 (is_tied _ tie) in
            ap (λ o. option_or (find place_cmp (L, t) (placed_of f)) (read_found L t o)) (ap (λ k. value_of found k) same ∙ find_under labels_cmp labels_total f.0 found (first_so _ _ sorted))
            ∙ or_none (find place_cmp (L, t) (placed_of f))
            ∙ ap (λ K. find place_cmp (L, t) (placed_at K (window_in from to (run_at runs f.1)))) (sym same)
            ∙ find_window L t f.1
        | false ↦ λ apart. ap (λ o. option_or o (read_found L t (value_of found L))) (find_apart L f.0 t (window_in from to (run_at runs f.1)) apart)
      ] refl

-- ---- the definition's side
-- what stands at a place, with one entry more
abbrev placed_by : Place → Option Entry → Entry → Option Entry
placed_by q found entry = cond (eq_by_cmp place_cmp q (entry.labels, entry.at)) (Some entry) found

find_put_all : (q : Place) (es : List (Place × Entry)) (entries : List Entry) → find place_cmp q (put_all place_cmp es (map at_place entries)) ≡ fold (placed_by q) (find place_cmp q es) entries
find_put_all q es [] = refl
find_put_all q es (e ∷ entries) =
    find_put_all q (put place_cmp (e.labels, e.at) e es) entries
    ∙ ap (λ o. fold (placed_by q) o entries) (find-put place_cmp places_total q (e.labels, e.at) e es)

pub sorted_put_all : (es : List (Place × Entry)) (entries : List Entry) → is_sorted place_cmp es ≡ true → is_sorted place_cmp (put_all place_cmp es (map at_place entries)) ≡ true
sorted_put_all es [] sorted = sorted
sorted_put_all es (e ∷ entries) sorted =
    sorted_put_all (put place_cmp (e.labels, e.at) e es) entries (true_of _ (is_sorted-put place_cmp places_total (e.labels, e.at) e es (test_of sorted)))

module _ (keys : List Texts) (matchers : List Matcher) (from to : ℤ) where
  abbrev is_in : Addition → Bool
  is_in x = is_within from to x.at && all_hold matchers (key_at keys x.number)

  abbrev placed_in : Place → Option Entry → Addition → Option Entry
  placed_in q found x = if is_in x then placed_by q found (entry_of keys x) else found

  fold_window : (q : Place) (found : Option Entry) (log : List Addition) → fold (placed_by q) found (window (entries_of keys log) matchers from to) ≡ fold (placed_in q) found log
  fold_window q found [] = refl
  fold_window q found (x ∷ log) =
      elim (is_in x) as (λ b. fold (placed_by q) found (cond b (entry_of keys x ∷ window (entries_of keys log) matchers from to) (window (entries_of keys log) matchers from to))
      ≡ fold (placed_in q) (if b then placed_by q found (entry_of keys x) else found) log) [
        | true ↦ fold_window q (placed_by q found (entry_of keys x)) log
        | false ↦ fold_window q found log
      ]

  none_stands : (q : Place) (log : List Addition) → AllByRecursion (λ x. x.number < length keys) log
      → ((n : ℕ) → n < length keys → key_at keys n ≡ q.0 → all_hold matchers q.0 ≡ true → ⊥) → fold (placed_in q) None log ≡ None
  none_stands q [] below none = refl
  none_stands q (x ∷ log) below none =
      ap (λ found. fold (placed_in q) found log) (
      elim (eq_by_cmp place_cmp q (key_at keys x.number, x.at)) as (λ t. eq_by_cmp place_cmp q (key_at keys x.number, x.at) ≡ t
      → (if is_in x then cond t (Some (entry_of keys x)) None else None) ≡ None) [
        | true ↦ λ tie.
            let same : q.0 ≡ key_at keys x.number = ap (λ (p : Place). p.0) (same_places q (key_at keys x.number, x.at) (is_tied _ tie)) in
            elim (all_hold matchers (key_at keys x.number)) as (λ h. all_hold matchers (key_at keys x.number) ≡ h → (if is_within from to x.at && h then Some (entry_of keys x) else None) ≡ None) [
              | true ↦ λ holds. absurd (none x.number below.0 (sym same) (ap (all_hold matchers) same ∙ holds))
              | false ↦ λ _. (elim (is_within from to x.at) as (λ b. (if b && false then Some (entry_of keys x) else None) ≡ None) [ true ↦ refl | false ↦ refl ])
            ] refl
        | false ↦ λ _. (elim (is_in x) as (λ (b : Bool). ◌≡◌ {A = Option Entry} (if b then None else None) None) [ true ↦ refl | false ↦ refl ])
      ] refl)
      ∙ none_stands q log below.1 none

  module _ (distinct : IsDistinct same_labels keys) (n : ℕ) (within : n < length keys) (holds : all_hold matchers (key_at keys n) ≡ true) (t : Moment) where
    -- the entry of a value at the place
    abbrev here : Option (Option ℤ) → Option Entry
    here found = if is_within from to t then option_map (λ value. reading_entry (key_at keys n) (t, value)) found else None

    -- what an addition makes of the value at the moment
    abbrev value_by : Option (Option ℤ) → Addition → Option (Option ℤ)
    value_by found x = if nat_eq x.number n then cond (eq_by_cmp moment_cmp t x.at) (Some x.value) found else found

    tie_told : (x : Addition) → x.number < length keys → eq_by_cmp place_cmp (key_at keys n, t) (key_at keys x.number, x.at) ≡ (nat_eq x.number n && eq_by_cmp moment_cmp t x.at)
    tie_told x below =
        both_tied (labels_cmp (key_at keys n) (key_at keys x.number)) (moment_cmp t x.at)
        ∙ ap (λ b. b && eq_by_cmp moment_cmp t x.at) (sym (labels_ties (key_at keys n) (key_at keys x.number)) ∙ number_told keys n x.number distinct within below)
      where
        both_tied : (o p : Ordering) → is_eq (ordering_then o p) ≡ (is_eq o && is_eq p)
        both_tied Less p = refl
        both_tied Equal p = refl
        both_tied Greater p = refl

    told_step : (found : Option (Option ℤ)) (x : Addition) → x.number < length keys → placed_in (key_at keys n, t) (here found) x ≡ here (value_by found x)
    told_step found x below =
        ap (λ b. if is_in x then cond b (Some (entry_of keys x)) (here found) else here found) (tie_told x below)
        ∙ elim (nat_eq x.number n) as (λ b. nat_eq x.number n ≡ b → (if is_in x then cond (b && eq_by_cmp moment_cmp t x.at) (Some (entry_of keys x)) (here found) else here found)
        ≡ here (if b then cond (eq_by_cmp moment_cmp t x.at) (Some x.value) found else found)) [
          | true ↦ λ is. elim (eq_by_cmp moment_cmp t x.at) as (λ b. eq_by_cmp moment_cmp t x.at ≡ b → (if is_in x then cond b (Some (entry_of keys x)) (here found) else here found)
              ≡ here (cond b (Some x.value) found)) [
                | true ↦ λ tie.
                    let same : t ≡ x.at = same_moments t x.at (is_tied _ tie) in
                    let key : key_at keys x.number ≡ key_at keys n = ap (key_at keys) (eqb-true x.number n is) in
                    ap (λ h. if is_within from to x.at && h then Some (entry_of keys x) else here found) (ap (all_hold matchers) key ∙ holds)
                    ∙ ap (λ m. if is_within from to m && true then Some (entry_of keys x) else here found) (sym same)
                    ∙ elim (is_within from to t) as (λ b. (if b && true then Some (entry_of keys x) else (if b then option_map (λ value. reading_entry (key_at keys n) (t, value)) found else None))
                    ≡ (if b then Some (reading_entry (key_at keys n) (t, x.value)) else None)) [
                      | true ↦ λ i. Some (record { labels = key i; at = sym same i; value = x.value })
                      | false ↦ refl
                    ]
                | false ↦ λ _. (elim (is_in x) as (λ b. (if b then here found else here found) ≡ here found) [ true ↦ refl | false ↦ refl ])
              ] refl
          | false ↦ λ _. (elim (is_in x) as (λ b. (if b then here found else here found) ≡ here found) [ true ↦ refl | false ↦ refl ])
        ] refl

    told_fold : (found : Option (Option ℤ)) (log : List Addition) → AllByRecursion (λ x. x.number < length keys) log → fold (placed_in (key_at keys n, t)) (here found) log ≡ here (fold value_by found log)
    told_fold found [] below = refl
    told_fold found (x ∷ log) below =
        ap (λ o. fold (placed_in (key_at keys n, t)) o log) (told_step found x below.0) ∙ told_fold (value_by found x) log below.1

    run_fold : (run : Run) (log : List Addition) → find moment_cmp t (fold (over_added n) run log) ≡ fold value_by (find moment_cmp t run) log
    run_fold run [] = refl
    run_fold run (x ∷ log) =
        run_fold (over_added n run x) log
        ∙ ap (λ found. fold value_by found log) (elim (nat_eq x.number n) as (λ b. find moment_cmp t (if b then over_reading run x.at x.value else run)
        ≡ (if b then cond (eq_by_cmp moment_cmp t x.at) (Some x.value) (find moment_cmp t run) else find moment_cmp t run)) [
          | true ↦ find-put moment_cmp moments_total t x.at x.value run
          | false ↦ refl
        ])

    start : here None ≡ None
    start = elim (is_within from to t) as (λ (b : Bool). ◌≡◌ {A = Option Entry} (if b then None else None) None) [ true ↦ refl | false ↦ refl ]

    told_read : (runs : List Run) (log : List Addition) → AllByRecursion (λ x. x.number < length keys) log → run_at runs n ≡ fold (over_added n) [] log
        → fold (placed_in (key_at keys n, t)) None log ≡ here (find moment_cmp t (run_at runs n))
    told_read runs log below is =
        ap (λ o. fold (placed_in (key_at keys n, t)) o log) (sym start) ∙ told_fold None log below
        ∙ ap here (sym (run_fold [] log) ∙ ap (find moment_cmp t) (sym is))

  -- at each place the runs that were found give what the list of entries gives
  told_at : (runs : List Run) (log : List Addition) (found : LabelMap ℕ) (each : (n : ℕ) → IsRun (run_at runs n)) → IsKept keys runs log → IsDistinct same_labels keys → AreFound keys matchers found
      → (L : Texts) (t : Moment) (o : Option ℕ) → value_of found L ≡ o → read_found runs from to each L t o ≡ fold (placed_in (L, t)) None log
  told_at runs log found each k distinct f L t None is =
      sym (none_stands (L, t) log k.below (λ n within key holds. absurd (true≢false (ap is_some (sym (f.all n within (ap (all_hold matchers) key ∙ holds)) ∙ ap (value_of found) key ∙ is)))))
  told_at runs log found each k distinct f L t (Some n) is =
      let at = f.each L n is in
      let holds : all_hold matchers (key_at keys n) ≡ true = ap (all_hold matchers) at.1 ∙ at.2 in
      subst (λ (L : Texts). read_found runs from to each L t (Some n) ≡ fold (placed_in (L, t)) None log) at.1
      (sym (told_read distinct n at.0 holds t runs log k.below (k.last n)))

-- entries that stand at their places
pub unplaced : (entries : List Entry) → map entry_at (map at_place entries) ≡ entries
unplaced [] = refl
unplaced (e ∷ entries) = ap (λ l. e ∷ l) (unplaced entries)

placed_run : (L : Texts) (run : Run) → map at_place (map (reading_entry L) run) ≡ placed_at L run
placed_run L [] = refl
placed_run L (r ∷ run) = ap (λ l. ((L, r.0), reading_entry L r) ∷ l) (placed_run L run)

map_joined : {A B : Type 0} (f : A → B) (xs ys : List A) → map f (xs ++ ys) ≡ map f xs ++ map f ys
map_joined f [] ys = refl
map_joined f (x ∷ xs) ys = ap (λ l. f x ∷ l) (map_joined f xs ys)

placed_all : (runs : List Run) (from to : ℤ) (each : (n : ℕ) → IsRun (run_at runs n)) (found : LabelMap ℕ) → map at_place (flat_map (selected_of runs from to) found) ≡ flat_map (placed_of runs from to each) found
placed_all runs from to each [] = refl
placed_all runs from to each (f ∷ found) =
    map_joined at_place (selected_of runs from to f) (flat_map (selected_of runs from to) found)
    ∙ (λ i. placed_run f.0 (window_in from to (run_at runs f.1)) i ++ placed_all runs from to each found i)

pub selected_told : {keys : List Texts} {runs : List Run} {log : List Addition} (matchers : List Matcher) (from to : ℤ) (found : LabelMap ℕ) → IsKept keys runs log → AreFound keys matchers found
    → flat_map (selected_of runs from to) found ≡ selected (entries_of keys log) matchers from to
selected_told {keys} {runs} {log} matchers from to found k f =
    let each : (n : ℕ) → IsRun (run_at runs n) = λ n. subst IsRun (sym (k.first n)) (run_sorted n [] log refl) in
    let W = window (entries_of keys log) matchers from to in
    sym (unplaced (flat_map (selected_of runs from to) found))
    ∙ ap (map entry_at) (placed_all runs from to each found
    ∙ same_entries place_cmp places_total same_places (flat_map (placed_of runs from to each) found) (in_order place_cmp (map at_place W))
    (test_of (sorted_all runs from to each found f.rises)) (test_of (sorted_put_all [] W refl))
    (λ q. find_all runs from to each q.0 q.1 found f.rises
    ∙ told_at keys matchers from to runs log found each k f.distinct f q.0 q.1 (value_of found q.0) refl
    ∙ sym (find_put_all q [] W ∙ fold_window keys matchers from to q None log)))

pub selected_answer : {E : Type 0} (r : Result (List Entry) E) {keys : List Texts} {runs : List Run} {log : List Addition} (slice : List Run) (store : Store) (matchers : List Matcher) (from to : ℤ) (found : LabelMap ℕ)
    → IsKept keys runs log → AreFound keys matchers found → slice ≡ runs → entries_of keys log ≡ store
    → IfOk r (λ entries. entries ≡ flat_map (selected_of slice from to) found) → IfOk r (λ entries. entries ≡ selected store matchers from to)
selected_answer (Ok entries) slice store matchers from to found k f same seen is =
    is ∙ ap (λ runs. flat_map (selected_of runs from to) found) same ∙ selected_told matchers from to found k f ∙ ap (λ store. selected store matchers from to) seen
selected_answer (Err e) slice store matchers from to found k f same seen is = tt
