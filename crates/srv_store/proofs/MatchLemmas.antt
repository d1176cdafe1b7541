-- The label sets on which the matchers hold, each with its number.
use Rattle.std.proofs.Common.{◌≡◌, ℕ, ◌<◌, true, false, List, [], ◌∷◌, length, Option, Some, None, is_some, if◌then◌else◌, nat_eq, slice_get, fold, refl, ap, sym, subst, ◌∙◌, ◌||◌, eqb-true, eq-eqb, Result, Ok, Err, IfOk}
use mathlib.Core.Bool.{true≢false}
use Rattle.std.specs.FinMap.Entries.{is_sorted, is_sorted-put, find-put}
use Rattle.std.specs.List.{IsDistinct, list_any}
use Rattle.std.specs.Option.{option_map_or}
use Rattle.std.specs.Ordering.{eq_by_cmp}
use Rattle.std.proofs.lemmas.Option.{slice_get_within, get_or_from_slice_get, slice_get-get_or, same_Some}
use Rattle.op_base.specs.declared.matcher.Matcher.{Matcher}
use Rattle.op_base.specs.Labels.{Texts, labels_cmp, labels_ties}
use Rattle.srv_store.specs.LabelMaps.{LabelMap, value_of, with_value}
use Rattle.srv_store.specs.Stores.{same_labels, all_hold}
use Rattle.srv_store.specs.Runs.{key_at, with_held, with_match, matching, IsComplete, AreFound}
use Rattle.srv_store.proofs.OrderLemmas.{labels_same, labels_total}
use Rattle.srv_store.proofs.PlaceLemmas.{test_of, true_of, is_tied}
use Rattle.srv_store.proofs.KeptLemmas.{number_told}

-- what stands at a label set, with the number of another or the same
abbrev at_labels : List Matcher → Texts → ℕ → Option ℕ → Texts → Option ℕ
at_labels matchers L m found K = if all_hold matchers K then (if eq_by_cmp labels_cmp L K then Some m else found) else found

abbrev at_number : List Texts → List Matcher → Texts → Option ℕ → ℕ → Option ℕ
at_number keys matchers L found m = option_map_or (at_labels matchers L m found) (slice_get keys m) found

module _ (keys : List Texts) (matchers : List Matcher) where
  find_held : (L : Texts) (M : LabelMap ℕ) (m : ℕ) (o : Option Texts) → value_of (option_map_or (λ labels. with_held matchers M labels m) o M) L ≡ option_map_or (at_labels matchers L m (value_of M L)) o (value_of M L)
  find_held L M m None = refl
  find_held L M m (Some K) =
      elim (all_hold matchers K) as (λ b. value_of (if b then with_value M K m else M) L ≡ (if b then (if eq_by_cmp labels_cmp L K then Some m else value_of M L) else value_of M L)) [
        | true ↦ find-put labels_cmp labels_total L K m M
        | false ↦ refl
      ]

  find_all : (L : Texts) (M : LabelMap ℕ) (numbers : List ℕ) → value_of (fold (with_match keys matchers) M numbers) L ≡ fold (at_number keys matchers L) (value_of M L) numbers
  find_all L M [] = refl
  find_all L M (m ∷ numbers) =
      find_all L (with_match keys matchers M m) numbers
      ∙ ap (λ o. fold (at_number keys matchers L) o numbers) (find_held L M m (slice_get keys m))

  rises_held : (M : LabelMap ℕ) (m : ℕ) (o : Option Texts) → is_sorted labels_cmp M ≡ true → is_sorted labels_cmp (option_map_or (λ labels. with_held matchers M labels m) o M) ≡ true
  rises_held M m None sorted = sorted
  rises_held M m (Some K) sorted =
      elim (all_hold matchers K) as (λ b. is_sorted labels_cmp (if b then with_value M K m else M) ≡ true) [
        | true ↦ true_of _ (is_sorted-put labels_cmp labels_total K m M (test_of sorted))
        | false ↦ sorted
      ]

  rises_all : (M : LabelMap ℕ) (numbers : List ℕ) → is_sorted labels_cmp M ≡ true → is_sorted labels_cmp (fold (with_match keys matchers) M numbers) ≡ true
  rises_all M [] sorted = sorted
  rises_all M (m ∷ numbers) sorted = rises_all (with_match keys matchers M m) numbers (rises_held M m (slice_get keys m) sorted)

  -- what is found is a number of the label set
  told_one : (L : Texts) (o : Option ℕ) (m n : ℕ) (s : Option Texts) → slice_get keys m ≡ s → ((n : ℕ) → o ≡ Some n → (n < length keys) × (key_at keys n ≡ L) × (all_hold matchers L ≡ true))
      → option_map_or (at_labels matchers L m o) s o ≡ Some n → (n < length keys) × (key_at keys n ≡ L) × (all_hold matchers L ≡ true)
  told_one L o m n None at before is = before n is
  told_one L o m n (Some K) at before is =
      elim (all_hold matchers K) as (λ b. all_hold matchers K ≡ b → (if b then (if eq_by_cmp labels_cmp L K then Some m else o) else o) ≡ Some n → (n < length keys) × (key_at keys n ≡ L) × (all_hold matchers L ≡ true)) [
        | true ↦ λ holds is. elim (eq_by_cmp labels_cmp L K) as (λ b. eq_by_cmp labels_cmp L K ≡ b → (if b then Some m else o) ≡ Some n → (n < length keys) × (key_at keys n ≡ L) × (all_hold matchers L ≡ true)) [
          | true ↦ λ tie is.
              let same : L ≡ K = labels_same L K (is_tied _ tie) in
              let number : m ≡ n = same_Some m n is in
              subst (λ (n : ℕ). (n < length keys) × (key_at keys n ≡ L) × (all_hold matchers L ≡ true)) number (
                slice_get_within keys m K at,
                get_or_from_slice_get keys m K [] at ∙ sym same,
                ap (all_hold matchers) same ∙ holds,
              )
          | false ↦ λ _ is. before n is
        ] refl is
        | false ↦ λ _ is. before n is
      ] refl is

  told_all : (L : Texts) (o : Option ℕ) (numbers : List ℕ) (n : ℕ) → ((n : ℕ) → o ≡ Some n → (n < length keys) × (key_at keys n ≡ L) × (all_hold matchers L ≡ true))
      → fold (at_number keys matchers L) o numbers ≡ Some n → (n < length keys) × (key_at keys n ≡ L) × (all_hold matchers L ≡ true)
  told_all L o [] n before is = before n is
  told_all L o (m ∷ numbers) n before is =
      told_all L (at_number keys matchers L o m) numbers n (λ k at. told_one L o m k (slice_get keys m) refl before at) is

  -- and each number of the list is found
  number_step : (n m : ℕ) (o : Option ℕ) (s : Option Texts) → IsDistinct same_labels keys → n < length keys → all_hold matchers (key_at keys n) ≡ true → slice_get keys m ≡ s
      → option_map_or (at_labels matchers (key_at keys n) m o) s o ≡ (if nat_eq n m then Some n else o)
  number_step n m o None distinct within holds at =
      elim (nat_eq n m) as (λ b. nat_eq n m ≡ b → o ≡ (if b then Some n else o)) [
        | true ↦ λ is. absurd (true≢false (ap is_some (sym (slice_get-get_or keys n [] within) ∙ ap (slice_get keys) (eqb-true n m is) ∙ at)))
        | false ↦ λ _. refl
      ] refl
  number_step n m o (Some K) distinct within holds at =
      let key : key_at keys m ≡ K = get_or_from_slice_get keys m K [] at in
      let tie : eq_by_cmp labels_cmp (key_at keys n) K ≡ nat_eq m n = sym (labels_ties (key_at keys n) K) ∙ ap (same_labels (key_at keys n)) (sym key) ∙ number_told keys n m distinct within (slice_get_within keys m K at) in
      elim (nat_eq n m) as (λ b. nat_eq n m ≡ b → at_labels matchers (key_at keys n) m o K ≡ (if b then Some n else o)) [
        | true ↦ λ is.
            let number : n ≡ m = eqb-true n m is in
            let held : all_hold matchers K ≡ true = ap (all_hold matchers) (sym (ap (key_at keys) number ∙ key)) ∙ holds in
            ap (λ b. if b then (if eq_by_cmp labels_cmp (key_at keys n) K then Some m else o) else o) held
            ∙ ap (λ b. if b then Some m else o) (tie ∙ eq-eqb m n (sym number)) ∙ ap (λ k. Some k) (sym number)
        | false ↦ λ isnt.
            let apart : eq_by_cmp labels_cmp (key_at keys n) K ≡ false = tie ∙ other n m isnt in
            ap (λ b. if all_hold matchers K then (if b then Some m else o) else o) apart
            ∙ elim (all_hold matchers K) as (λ b. (if b then o else o) ≡ o) [ true ↦ refl | false ↦ refl ]
      ] refl
    where
      other : (n m : ℕ) → nat_eq n m ≡ false → nat_eq m n ≡ false
      other n m isnt = elim (nat_eq m n) as (λ b. nat_eq m n ≡ b → b ≡ false) [
        | true ↦ λ is. sym (eq-eqb n m (sym (eqb-true m n is))) ∙ isnt
        | false ↦ λ _. refl
      ] refl

  number_all : (n : ℕ) (o : Option ℕ) (numbers : List ℕ) → IsDistinct same_labels keys → n < length keys → all_hold matchers (key_at keys n) ≡ true
      → fold (at_number keys matchers (key_at keys n)) o numbers ≡ (if list_any (nat_eq n) numbers then Some n else o)
  number_all n o [] distinct within holds = refl
  number_all n o (m ∷ numbers) distinct within holds =
      number_all n (at_number keys matchers (key_at keys n) o m) numbers distinct within holds
      ∙ ap (λ o. if list_any (nat_eq n) numbers then Some n else o) (number_step n m o (slice_get keys m) distinct within holds refl)
      ∙ elim (nat_eq n m) as (λ b. (if list_any (nat_eq n) numbers then Some n else (if b then Some n else o)) ≡ (if b || list_any (nat_eq n) numbers then Some n else o)) [
        | true ↦ (elim (list_any (nat_eq n) numbers) as (λ b. (if b then Some n else Some n) ≡ Some n) [ true ↦ refl | false ↦ refl ])
        | false ↦ refl
      ]

pub found_by : (keys : List Texts) (matchers : List Matcher) (numbers : List ℕ) → IsDistinct same_labels keys → IsComplete keys matchers numbers → AreFound keys matchers (matching keys matchers numbers)
found_by keys matchers numbers distinct complete = record {
  distinct = distinct;
  rises = rises_all keys matchers [] numbers refl;
  each = λ L n is. told_all keys matchers L None numbers n (λ k none. absurd (true≢false (sym (ap is_some none)))) (sym (find_all keys matchers L [] numbers) ∙ is);
  all = λ n within holds. find_all keys matchers (key_at keys n) [] numbers ∙ number_all keys matchers n None numbers distinct within holds
      ∙ ap (λ b. if b then Some n else None) (complete n within holds);
}

pub found_answer : {E : Type 0} (r : Result (LabelMap ℕ) E) (keys slice : List Texts) (matchers prepared : List Matcher) (numbers places : List ℕ) → IsDistinct same_labels keys → slice ≡ keys → prepared ≡ matchers
    → IsComplete keys matchers numbers → places ≡ numbers → IfOk r (λ found. found ≡ matching slice prepared places) → IfOk r (AreFound keys matchers)
found_answer (Ok found) keys slice matchers prepared numbers places distinct same read complete listed is =
    subst (AreFound keys matchers) (sym (is ∙ (λ i. matching (same i) (read i) (listed i)))) (found_by keys matchers numbers distinct complete)
found_answer (Err e) keys slice matchers prepared numbers places distinct same read complete listed is = tt
