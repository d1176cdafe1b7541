-- The newest entries of a store, told by its runs.
use Rattle.std.proofs.Common.{◌≡◌, ℕ, ◌<◌, ℤ, Bool, true, false, ◌&&◌, List, [], ◌∷◌, cond, length, Option, Some, None, is_some, if◌then◌else◌, int_lt, nat_eq, fold, option_map, refl, ap, sym, subst, ◌∙◌, eqb-true, Result, Ok, Err, IfOk}
use mathlib.Core.Bool.{true≢false}
use Rattle.std.specs.FinMap.Entries.{is_sorted, is_sorted-put, find-put, find_tied}
use Rattle.std.specs.List.{AllByRecursion, IsDistinct, flat_map}
use Rattle.std.specs.Option.{option_map_or}
use Rattle.std.specs.Ordering.{eq_by_cmp}
use Rattle.op_base.specs.declared.matcher.Matcher.{Matcher}
use Rattle.op_base.specs.Labels.{Texts, labels_cmp, labels_ties}
use Rattle.srv_store.specs.declared.addition.Addition.{Addition}
use Rattle.srv_store.specs.declared.entry.Entry.{Entry}
use Rattle.srv_store.specs.LabelMaps.{LabelMap, value_of, with_value}
use Rattle.srv_store.specs.Stores.{Store, same_labels, all_hold, is_within, window, is_newer, with_newer, latest, found_entry, newest}
use Rattle.srv_store.specs.Runs.{Reading, Run, key_at, run_at, entry_of, entries_of, reading_entry, newest_in, newest_entry, newest_of, IsKept, AreFound}
use Rattle.srv_store.proofs.OrderLemmas.{labels_same, labels_total}
use Rattle.srv_store.proofs.PlaceLemmas.{test_of, true_of, is_tied}
use Rattle.srv_store.proofs.KeptLemmas.{number_told}
use Rattle.srv_store.proofs.FlatLemmas.{flat_same}
use Rattle.srv_store.proofs.NewestLemmas.{newer, newer_added, newest-fold}

-- what stands at a label set, with one entry more
abbrev pub newer_at : Texts → Option Entry → Entry → Option Entry
newer_at L found entry = if eq_by_cmp labels_cmp L entry.labels then (if is_newer found entry then Some entry else found) else found

find_newer : (L : Texts) (M : LabelMap Entry) (entry : Entry) → value_of (with_newer M entry) L ≡ newer_at L (value_of M L) entry
find_newer L M entry =
    elim (eq_by_cmp labels_cmp L entry.labels) as (λ t. eq_by_cmp labels_cmp L entry.labels ≡ t → value_of (with_newer M entry) L ≡ (if t then (if is_newer (value_of M L) entry then Some entry else value_of M L) else value_of M L)) [
      | true ↦ λ tie.
          let same : value_of M entry.labels ≡ value_of M L = find_tied labels_cmp labels_total L entry.labels (is_tied _ tie) M in
          elim (is_newer (value_of M entry.labels) entry) as (λ b. value_of (if b then with_value M entry.labels entry else M) L ≡ (if b then Some entry else value_of M L)) [
            | true ↦ find-put labels_cmp labels_total L entry.labels entry M ∙ ap (λ b. cond b (Some entry) (value_of M L)) tie
            | false ↦ refl
          ]
          ∙ ap (λ found. if is_newer found entry then Some entry else value_of M L) same
      | false ↦ λ apart.
          elim (is_newer (value_of M entry.labels) entry) as (λ b. value_of (if b then with_value M entry.labels entry else M) L ≡ value_of M L) [
            | true ↦ find-put labels_cmp labels_total L entry.labels entry M ∙ ap (λ b. cond b (Some entry) (value_of M L)) apart
            | false ↦ refl
          ]
    ] refl

pub find_latest : (L : Texts) (M : LabelMap Entry) (entries : List Entry) → value_of (fold with_newer M entries) L ≡ fold (newer_at L) (value_of M L) entries
find_latest L M [] = refl
find_latest L M (e ∷ entries) = find_latest L (with_newer M e) entries ∙ ap (λ found. fold (newer_at L) found entries) (find_newer L M e)

latest_rises : (M : LabelMap Entry) (entries : List Entry) → is_sorted labels_cmp M ≡ true → is_sorted labels_cmp (fold with_newer M entries) ≡ true
latest_rises M [] sorted = sorted
latest_rises M (e ∷ entries) sorted = latest_rises (with_newer M e) entries
    (elim (is_newer (value_of M e.labels) e) as (λ b. is_sorted labels_cmp (if b then with_value M e.labels e else M) ≡ true) [
      | true ↦ true_of _ (is_sorted-put labels_cmp labels_total e.labels e M (test_of sorted))
      | false ↦ sorted
    ])

module _ (keys : List Texts) (matchers : List Matcher) (from to : ℤ) where
  -- an addition is in the window
  abbrev is_in : Addition → Bool
  is_in x = is_within from to x.at && all_hold matchers (key_at keys x.number)

  -- what an addition makes of what stands at a label set
  abbrev newer_by : Texts → Option Entry → Addition → Option Entry
  newer_by L found x = if is_in x then newer_at L found (entry_of keys x) else found

  fold_window : (L : Texts) (found : Option Entry) (log : List Addition) → fold (newer_at L) found (window (entries_of keys log) matchers from to) ≡ fold (newer_by L) found log
  fold_window L found [] = refl
  fold_window L found (x ∷ log) =
      elim (is_in x) as (λ b. fold (newer_at L) found (cond b (entry_of keys x ∷ window (entries_of keys log) matchers from to) (window (entries_of keys log) matchers from to))
      ≡ fold (newer_by L) (if b then newer_at L found (entry_of keys x) else found) log) [
        | true ↦ fold_window L (newer_at L found (entry_of keys x)) log
        | false ↦ fold_window L found log
      ]

  stands_at : (L : Texts) (log : List Addition) → value_of (latest (window (entries_of keys log) matchers from to)) L ≡ fold (newer_by L) None log
  stands_at L log = find_latest L [] (window (entries_of keys log) matchers from to) ∙ fold_window L None log

  -- nothing stands at a label set on which no number of a matching one is
  none_stands : (L : Texts) (log : List Addition) → AllByRecursion (λ x. x.number < length keys) log
      → ((n : ℕ) → n < length keys → key_at keys n ≡ L → all_hold matchers L ≡ true → ⊥) → fold (newer_by L) None log ≡ None
  none_stands L [] below none = refl
  none_stands L (x ∷ log) below none =
      ap (λ found. fold (newer_by L) found log) (
      elim (all_hold matchers (key_at keys x.number)) as (λ h. all_hold matchers (key_at keys x.number) ≡ h
      → (if is_within from to x.at && h then newer_at L None (entry_of keys x) else None) ≡ None) [
        | true ↦ λ holds. elim (eq_by_cmp labels_cmp L (key_at keys x.number)) as (λ t. eq_by_cmp labels_cmp L (key_at keys x.number) ≡ t
            → (if is_within from to x.at && true then (if t then Some (entry_of keys x) else None) else None) ≡ None) [
              | true ↦ λ tie. let same : L ≡ key_at keys x.number = labels_same L (key_at keys x.number) (is_tied _ tie) in
                  absurd (none x.number below.0 (sym same) (ap (all_hold matchers) same ∙ holds))
              | false ↦ λ _. (elim (is_within from to x.at && true) as (λ (b : Bool). ◌≡◌ {A = Option Entry} (if b then None else None) None) [ true ↦ refl | false ↦ refl ])
            ] refl
        | false ↦ λ _. (elim (is_within from to x.at) as (λ b. (if b && false then newer_at L None (entry_of keys x) else None) ≡ None) [ true ↦ refl | false ↦ refl ])
      ] refl)
      ∙ none_stands L log below.1 none

  module _ (distinct : IsDistinct same_labels keys) (n : ℕ) (within : n < length keys) (holds : all_hold matchers (key_at keys n) ≡ true) where
    -- the entry of a reading at the label set
    abbrev here : Option Reading → Option Entry
    here found = option_map (reading_entry (key_at keys n)) found

    newer_here : (found : Option Reading) (x : Addition) (entry : Entry) → entry ≡ reading_entry (key_at keys n) (x.at, x.value)
        → (if is_newer (here found) entry then Some entry else here found) ≡ here (newer found (x.at, x.value))
    newer_here None x entry is = ap (λ e. Some e) is
    newer_here (Some q) x entry is =
        ap (λ (e : Entry). if int_lt q.0.0 e.at.0 then Some e else Some (reading_entry (key_at keys n) q)) is
        ∙ elim (int_lt q.0.0 x.at.0) as (λ b. (if b then Some (reading_entry (key_at keys n) (x.at, x.value)) else Some (reading_entry (key_at keys n) q)) ≡ here (if b then Some (x.at, x.value) else Some q)) [ true ↦ refl | false ↦ refl ]

    told_step : (found : Option Reading) (x : Addition) → x.number < length keys → newer_by (key_at keys n) (here found) x ≡ here (newer_added from to n found x)
    told_step found x below =
        let tie : eq_by_cmp labels_cmp (key_at keys n) (key_at keys x.number) ≡ nat_eq x.number n = sym (labels_ties (key_at keys n) (key_at keys x.number)) ∙ number_told keys n x.number distinct within below in
        ap (λ t. if is_in x then (if t then (if is_newer (here found) (entry_of keys x) then Some (entry_of keys x) else here found) else here found) else here found) tie
        ∙ elim (nat_eq x.number n) as (λ b. nat_eq x.number n ≡ b → (if is_in x then (if b then (if is_newer (here found) (entry_of keys x) then Some (entry_of keys x) else here found) else here found) else here found)
        ≡ here (if b then (if is_within from to x.at then newer found (x.at, x.value) else found) else found)) [
          | true ↦ λ is.
              let same : key_at keys x.number ≡ key_at keys n = ap (key_at keys) (eqb-true x.number n is) in
              ap (λ h. if is_within from to x.at && h then (if is_newer (here found) (entry_of keys x) then Some (entry_of keys x) else here found) else here found) (ap (all_hold matchers) same ∙ holds)
              ∙ elim (is_within from to x.at) as (λ w. (if w && true then (if is_newer (here found) (entry_of keys x) then Some (entry_of keys x) else here found) else here found) ≡ here (if w then newer found (x.at, x.value) else found)) [
                | true ↦ newer_here found x (entry_of keys x) (λ i. record { labels = same i; at = x.at; value = x.value })
                | false ↦ refl
              ]
          | false ↦ λ _. (elim (is_in x) as (λ b. (if b then here found else here found) ≡ here found) [ true ↦ refl | false ↦ refl ])
        ] refl

    told_fold : (found : Option Reading) (log : List Addition) → AllByRecursion (λ x. x.number < length keys) log → fold (newer_by (key_at keys n)) (here found) log ≡ here (fold (newer_added from to n) found log)
    told_fold found [] below = refl
    told_fold found (x ∷ log) below =
        ap (λ o. fold (newer_by (key_at keys n)) o log) (told_step found x below.0)
        ∙ told_fold (newer_added from to n found x) log below.1

  entry_shown : (L : Texts) (found : Option Reading) → newest_entry L found ≡ option_map_or (λ entry. found_entry (L, entry)) (option_map (reading_entry L) found) []
  entry_shown L None = refl
  entry_shown L (Some r) = refl

  -- at each label set the runs that were found give what the list of entries gives
  told_at : (runs : List Run) (log : List Addition) (found : LabelMap ℕ) → IsKept keys runs log → IsDistinct same_labels keys → AreFound keys matchers found
      → (L : Texts) (o : Option ℕ) → value_of found L ≡ o → option_map_or (λ n. newest_of runs from to (L, n)) o [] ≡ option_map_or (λ entry. found_entry (L, entry)) (fold (newer_by L) None log) []
  told_at runs log found k distinct f L None is =
      ap (λ (s : Option Entry). option_map_or (λ entry. found_entry (L, entry)) s []) (sym (none_stands L log k.below (λ n within key holds. absurd (true≢false (ap is_some (sym (f.all n within (ap (all_hold matchers) key ∙ holds)) ∙ ap (value_of found) key ∙ is))))))
  told_at runs log found k distinct f L (Some n) is =
      let at = f.each L n is in
      let holds : all_hold matchers (key_at keys n) ≡ true = ap (all_hold matchers) at.1 ∙ at.2 in
      let stands : fold (newer_by (key_at keys n)) None log ≡ option_map (reading_entry (key_at keys n)) (newest_in from to (run_at runs n)) =
      told_fold distinct n at.0 holds None log k.below ∙ ap (option_map (reading_entry (key_at keys n))) (sym (newest-fold from to n [] log refl) ∙ ap (newest_in from to) (sym (k.first n))) in
      subst (λ (L : Texts). newest_entry L (newest_in from to (run_at runs n)) ≡ option_map_or (λ entry. found_entry (L, entry)) (fold (newer_by L) None log) []) at.1
      (entry_shown (key_at keys n) (newest_in from to (run_at runs n))
      ∙ ap (λ s. option_map_or (λ entry. found_entry (key_at keys n, entry)) s []) (sym stands))

pub newest_told : {keys : List Texts} {runs : List Run} {log : List Addition} (matchers : List Matcher) (from to : ℤ) (found : LabelMap ℕ) → IsKept keys runs log → AreFound keys matchers found
    → flat_map (newest_of runs from to) found ≡ newest (entries_of keys log) matchers from to
newest_told {keys} {runs} {log} matchers from to found k f =
    flat_same labels_cmp labels_total (newest_of runs from to) found_entry labels_same found (latest (window (entries_of keys log) matchers from to))
    f.rises (latest_rises [] (window (entries_of keys log) matchers from to) refl)
    (λ L. told_at keys matchers from to runs log found k f.distinct f L (value_of found L) refl
    ∙ ap (λ s. option_map_or (λ entry. found_entry (L, entry)) s []) (sym (stands_at keys matchers from to L log)))

pub newest_answer : {E : Type 0} (r : Result (List Entry) E) {keys : List Texts} {runs : List Run} {log : List Addition} (slice : List Run) (store : Store) (matchers : List Matcher) (from to : ℤ) (found : LabelMap ℕ)
    → IsKept keys runs log → AreFound keys matchers found → slice ≡ runs → entries_of keys log ≡ store
    → IfOk r (λ entries. entries ≡ flat_map (newest_of slice from to) found) → IfOk r (λ entries. entries ≡ newest store matchers from to)
newest_answer (Ok entries) slice store matchers from to found k f same seen is =
    is ∙ ap (λ runs. flat_map (newest_of runs from to) found) same ∙ newest_told matchers from to found k f ∙ ap (λ store. newest store matchers from to) seen
newest_answer (Err e) slice store matchers from to found k f same seen is = tt
