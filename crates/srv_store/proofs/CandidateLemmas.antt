-- What stands in the lists of all labels that matchers ask for are the numbers of the label sets on which they hold.
use Rattle.std.proofs.Common.{◌≡◌, ℕ, zero, suc, ◌<◌, ◌≤◌, Bool, true, false, ◌&&◌, ◌||◌, List, [], ◌∷◌, ◌++◌, length, map, filter, cond, get_or, if◌then◌else◌, nat_eq, refl, ap, sym, subst, ◌∙◌, arith, eqb-true, eq-eqb, is_ok, Bor, Result, Ok, Err, IfOk, ⊎_elim}
use mathlib.Core.Bool.{true≢false}
use Rattle.std.specs.Cmp.{first_so, second_so}
use Rattle.std.specs.List.{All, AllByRecursion, flat_map, list_any, range_with_len}
use Rattle.std.specs.List.Sorted.{IsBinarySearchResult, IsNonDecreasing}
use Rattle.std.specs.Ordering.{nat_cmp}
use Rattle.std.proofs.lemmas.Result.{IfOk-weaker}
use Rattle.std.proofs.lemmas.List.FromFn.{length-range_with_len, get_or-range_with_len}
use Rattle.std.proofs.lemmas.Bool.{cases_Bool, cases_order}
use Rattle.std.proofs.lemmas.List.{get_or_default}
use Rattle.std.proofs.lemmas.List.Folds.{list_all-append, list_any_at, list_any_none}
use Rattle.std.proofs.lemmas.List.Sorted.{searched}
use Rattle.std.proofs.lemmas.List.Kept.{IsNonDecreasingBy-filter}
use Rattle.op_base.specs.declared.matcher.Matcher.{Matcher}
use Rattle.op_base.specs.declared.matcher.MatchOp.{MatchOp}
use Rattle.op_base.specs.declared.matcher.MatchOp.TheVariants.{Eq, Ne, Re, Nr}
use Rattle.op_base.specs.Labels.{Texts}
use Rattle.op_base.specs.Matchers.{passes, holds_on, label_value}
use Rattle.srv_store.specs.Stores.{all_hold}
use Rattle.srv_store.specs.Runs.{key_at, IsComplete}
use Rattle.srv_store.specs.Indexes.{Index, IsIndex, asked_hold, asked_list, asks, asks_for, has_label, listed_at, numbers_where, stands_in_all}
use Rattle.srv_store.proofs.IndexLemmas.{filter_alike, range_all}
use Rattle.srv_store.proofs.WindowLemmas.{filter_both}

-- ---- numbers of label sets
range_rises : (count : ℕ) → IsNonDecreasing (range_with_len 0 count)
range_rises count i j d order within =
    let last : j < count = omega (arith, within, length-range_with_len 0 count) in
    omega (arith, get_or-range_with_len 0 count i d (omega arith), get_or-range_with_len 0 count j d last)

numbers_rise : (test : Texts → Bool) (keys : List Texts) → IsNonDecreasing (numbers_where test keys)
numbers_rise test keys = IsNonDecreasingBy-filter (λ n. n) (λ n. test (key_at keys n)) (range_with_len 0 (length keys)) (range_rises (length keys))

any_filter : (p : ℕ → Bool) (n : ℕ) (ns : List ℕ) → list_any (nat_eq n) (filter p ns) ≡ (list_any (nat_eq n) ns && p n)
any_filter p n [] = refl
any_filter p n (m ∷ ns) =
    elim (nat_eq n m) as (λ e. nat_eq n m ≡ e → list_any (nat_eq n) (cond (p m) (m ∷ filter p ns) (filter p ns)) ≡ ((e || list_any (nat_eq n) ns) && p n)) [
      | true ↦ λ is. let same : p m ≡ p n = ap p (sym (eqb-true n m is)) in
          elim (p m) as (λ b. p m ≡ b → list_any (nat_eq n) (cond b (m ∷ filter p ns) (filter p ns)) ≡ p n) [
            | true ↦ λ holds. ap (λ e. e || list_any (nat_eq n) (filter p ns)) is ∙ sym holds ∙ same
            | false ↦ λ fails. any_filter p n ns ∙ ap (λ b. list_any (nat_eq n) ns && b) (sym same ∙ fails) ∙ and_false (list_any (nat_eq n) ns) ∙ sym fails ∙ same
          ] refl
      | false ↦ λ isnt. elim (p m) as (λ b. list_any (nat_eq n) (cond b (m ∷ filter p ns) (filter p ns)) ≡ (list_any (nat_eq n) ns && p n)) [
        | true ↦ ap (λ e. e || list_any (nat_eq n) (filter p ns)) isnt ∙ any_filter p n ns
        | false ↦ any_filter p n ns
      ]
    ] refl
  where
    and_false : (b : Bool) → (b && false) ≡ false
    and_false true = refl
    and_false false = refl

number_stands : (test : Texts → Bool) (keys : List Texts) (n : ℕ) → n < length keys → list_any (nat_eq n) (numbers_where test keys) ≡ test (key_at keys n)
number_stands test keys n within =
    let at : nat_eq n (get_or (range_with_len 0 (length keys)) n 0) ≡ true = eq-eqb n (get_or (range_with_len 0 (length keys)) n 0) (omega (arith, get_or-range_with_len 0 (length keys) n 0 within)) in
    any_filter (λ m. test (key_at keys m)) n (range_with_len 0 (length keys))
    ∙ ap (λ b. b && test (key_at keys n)) (list_any_at (nat_eq n) (range_with_len 0 (length keys)) n 0 (omega (arith, length-range_with_len 0 (length keys), within)) at)

-- a number that is searched in rising ones is found where it stands
pub search_told : (list : List ℕ) (n : ℕ) (r : Result ℕ ℕ) → IsBinarySearchResult (λ m. nat_cmp m n) list r → IsNonDecreasing list → is_ok r ≡ list_any (nat_eq n) list
search_told list n (Ok i) found rises =
    let at = searched list n (Ok i) found (λ i j order within. rises i j 0 order within) in
    sym (list_any_at (nat_eq n) list i 0 at.0 (eq-eqb n (get_or list i 0) (sym at.1)))
search_told list n (Err i) found rises =
    let gap = searched list n (Err i) found (λ i j order within. rises i j 0 order within) in
    sym (list_any_none (nat_eq n) list (λ k d within. ⊎_elim
    (λ (is : nat_eq n (get_or list k d) ≡ true).
    let same : n ≡ get_or list k 0 = eqb-true n (get_or list k d) is ∙ get_or_default list k d 0 within in
    absurd (⊎_elim (λ (here : k ≡ i). omega (arith, same, gap.2 k (omega (arith, here)) within))
    (⊎_elim (λ (before : k < i). omega (arith, same, gap.1 k before)) (λ (behind : i < k). omega (arith, same, gap.2 k (omega (arith, behind)) within)))
    (cases_order k i)))
    (λ isnt. isnt) (cases_Bool (nat_eq n (get_or list k d)))))

-- ---- the lists of the labels that are asked for
asked_told : (op : MatchOp) (value : List ℕ) → asks_for op value ≡ true → (op ≡ Eq) × (0 < length value)
asked_told Eq [] is = absurd (true≢false (sym is))
asked_told Eq (b ∷ value) is = (refl, omega arith)
asked_told Ne value is = absurd (true≢false (sym is))
asked_told Re value is = absurd (true≢false (sym is))
asked_told Nr value is = absurd (true≢false (sym is))

-- a list has the numbers of the label sets that pass a test
abbrev IsOfTest : List Texts → List ℕ → Type 0
IsOfTest keys list = (test : Texts → Bool) × (list ≡ numbers_where test keys)

all_joined : {X : Type 0} (P : X → Type 0) (xs ys : List X) → AllByRecursion P xs → AllByRecursion P ys → AllByRecursion P (xs ++ ys)
all_joined P [] ys all more = more
all_joined P (x ∷ xs) ys all more = (all.0, all_joined P xs ys all.1 more)

module _ (keys : List Texts) (index : Index) (told : IsIndex keys index) where
  of_tests : (matchers : List Matcher) → AllByRecursion (IsOfTest keys) (flat_map (asked_list index) matchers)
  of_tests [] = tt
  of_tests (m ∷ matchers) = all_joined (IsOfTest keys) (asked_list index m) (flat_map (asked_list index) matchers) (one (asks m) refl) (of_tests matchers)
    where
      one : (b : Bool) → asks m ≡ b → AllByRecursion (IsOfTest keys) (if b then listed_at index m.name m.value ∷ [] else [])
      one true is = ((has_label m.name m.value, told m.name m.value (asked_told m.op m.value is).1), tt)
      one false isnt = tt

  pub lists_rise : (matchers : List Matcher) (lists : List (Bor (List ℕ))) → map (λ list. list.now) lists ≡ flat_map (asked_list index) matchers → All (λ list. IsNonDecreasing list.now) lists
  lists_rise matchers lists is = each lists (subst (AllByRecursion (IsOfTest keys)) (sym is) (of_tests matchers))
    where
      each : (lists : List (Bor (List ℕ))) → AllByRecursion (IsOfTest keys) (map (λ list. list.now) lists) → All (λ list. IsNonDecreasing list.now) lists
      each [] all k d within = absurd (omega arith)
      each (l ∷ lists) all zero d within = subst IsNonDecreasing (sym all.0.1) (numbers_rise all.0.0 keys)
      each (l ∷ lists) all (suc k) d within = each lists all.1 k d (omega arith)

  -- a number stands in all lists where all matchers hold that ask for a label
  stands_told : (matchers : List Matcher) (n : ℕ) → n < length keys → stands_in_all (flat_map (asked_list index) matchers) n ≡ asked_hold matchers (key_at keys n)
  stands_told [] n within = refl
  stands_told (m ∷ matchers) n within =
      list_all-append (list_any (nat_eq n)) (asked_list index m) (flat_map (asked_list index) matchers)
      ∙ elim (asks m) as (λ b. asks m ≡ b → (stands_in_all (if b then listed_at index m.name m.value ∷ [] else []) n && stands_in_all (flat_map (asked_list index) matchers) n)
      ≡ all_hold (cond b (m ∷ filter asks matchers) (filter asks matchers)) (key_at keys n)) [
        | true ↦ λ is.
            let asked = asked_told m.op m.value is in
            let holds : list_any (nat_eq n) (listed_at index m.name m.value) ≡ holds_on m (key_at keys n) =
            ap (list_any (nat_eq n)) (told m.name m.value asked.1) ∙ number_stands (has_label m.name m.value) keys n within
            ∙ ap (λ op. passes op m.value (label_value (key_at keys n) m.name)) (sym asked.0) in
            ap (λ b. b && stands_in_all (flat_map (asked_list index) matchers) n) (and_true _ ∙ holds)
            ∙ ap (λ b. holds_on m (key_at keys n) && b) (stands_told matchers n within)
        | false ↦ λ _. stands_told matchers n within
      ] refl
    where
      and_true : (b : Bool) → (b && true) ≡ b
      and_true true = refl
      and_true false = refl

  -- the numbers of one list that stand in all
  kept_told : (matchers : List Matcher) (lists : List (List ℕ)) (i : ℕ) → lists ≡ flat_map (asked_list index) matchers → i < length lists
      → filter (stands_in_all lists) (get_or lists i []) ≡ numbers_where (asked_hold matchers) keys
  kept_told matchers lists i is within =
      let one : IsOfTest keys (get_or lists i []) = at lists i (subst (AllByRecursion (IsOfTest keys)) (sym is) (of_tests matchers)) within in
      let agrees : (n : ℕ) → n < length keys → (one.0 (key_at keys n) && stands_in_all lists n) ≡ asked_hold matchers (key_at keys n) =
      λ n below. narrower (one.0 (key_at keys n)) (stands_in_all lists n) (λ all. sym (number_stands one.0 keys n below) ∙ ap (list_any (nat_eq n)) (sym one.1) ∙ all_at n lists i within all)
      ∙ ap (λ l. stands_in_all l n) is ∙ stands_told matchers n below in
      ap (filter (stands_in_all lists)) one.1
      ∙ sym (filter_both (λ n. one.0 (key_at keys n)) (stands_in_all lists) (range_with_len 0 (length keys)))
      ∙ filter_alike (λ n. one.0 (key_at keys n) && stands_in_all lists n) (λ n. asked_hold matchers (key_at keys n)) (range_with_len 0 (length keys))
      (range_all (λ n. (one.0 (key_at keys n) && stands_in_all lists n) ≡ asked_hold matchers (key_at keys n)) 0 (length keys) (λ n below. agrees n (omega (arith, below))))
    where
      at : (lists : List (List ℕ)) (i : ℕ) → AllByRecursion (IsOfTest keys) lists → i < length lists → IsOfTest keys (get_or lists i [])
      at [] i all within = absurd (omega arith)
      at (l ∷ lists) zero all within = all.0
      at (l ∷ lists) (suc i) all within = at lists i all.1 (omega arith)

      all_at : (n : ℕ) (lists : List (List ℕ)) (i : ℕ) → i < length lists → stands_in_all lists n ≡ true → list_any (nat_eq n) (get_or lists i []) ≡ true
      all_at n [] i within all = absurd (omega arith)
      all_at n (l ∷ lists) zero within all = first_so _ _ all
      all_at n (l ∷ lists) (suc i) within all = all_at n lists i (omega arith) (second_so _ _ all)

      narrower : (a b : Bool) → (b ≡ true → a ≡ true) → (a && b) ≡ b
      narrower true b wider = refl
      narrower false true wider = absurd (true≢false (sym (wider refl)))
      narrower false false wider = refl

  -- where no label is asked for, all matchers that ask for one hold
  pub none_asked : (matchers : List Matcher) (lists : List (List ℕ)) → lists ≡ flat_map (asked_list index) matchers → lists ≡ []
      → range_with_len 0 (length keys) ≡ numbers_where (asked_hold matchers) keys
  none_asked matchers lists is none =
      sym (all_pass (range_with_len 0 (length keys)))
      ∙ filter_alike (λ _. true) (λ n. asked_hold matchers (key_at keys n)) (range_with_len 0 (length keys))
      (range_all (λ n. true ≡ asked_hold matchers (key_at keys n)) 0 (length keys)
      (λ n below. ap (λ l. stands_in_all l n) (sym none ∙ is) ∙ stands_told matchers n (omega (arith, below))))
    where
      all_pass : (ns : List ℕ) → filter (λ _. true) ns ≡ ns
      all_pass [] = refl
      all_pass (n ∷ ns) = ap (λ l. n ∷ l) (all_pass ns)

-- matchers that all hold are so where they ask for a label
pub asked_complete : (keys : List Texts) (matchers : List Matcher) (numbers : List ℕ) → numbers ≡ numbers_where (asked_hold matchers) keys → IsComplete keys matchers numbers
asked_complete keys matchers numbers is n within holds =
    ap (list_any (nat_eq n)) is ∙ number_stands (asked_hold matchers) keys n within ∙ some_hold matchers (key_at keys n) holds
  where
    some_hold : (matchers : List Matcher) (labels : Texts) → all_hold matchers labels ≡ true → asked_hold matchers labels ≡ true
    some_hold [] labels all = refl
    some_hold (m ∷ matchers) labels all =
        elim (asks m) as (λ b. all_hold (cond b (m ∷ filter asks matchers) (filter asks matchers)) labels ≡ true) [
          | true ↦ ap (λ b. b && asked_hold matchers labels) (first_so _ _ all) ∙ some_hold matchers labels (second_so _ _ all)
          | false ↦ some_hold matchers labels (second_so _ _ all)
        ]

-- ---- the answer of the look-up in the index
-- a list that was found stands at its place
at_get : (lists : List (Bor (List ℕ))) (i : ℕ) (found : Bor (List ℕ)) → i < length lists → found ≡ get_or lists i found
    → (i < length (map (λ list. list.now) lists)) × (found.now ≡ get_or (map (λ list. list.now) lists) i [])
at_get [] i found within is = absurd (omega arith)
at_get (l ∷ lists) zero found within is = (omega arith, ap (λ list. list.now) is)
at_get (l ∷ lists) (suc i) found within is = let rest = at_get lists i found (omega arith) is in (omega (arith, rest.0), rest.1)

none_get : {X : Type 0} (xs : List X) (i : ℕ) → length xs ≤ i → (0 < length xs → i < length xs) → xs ≡ []
none_get [] i behind within = refl
none_get (x ∷ xs) i behind within = absurd (omega (arith, behind, within (omega arith)))

module _ (keys : List Texts) (index : Index) (told : IsIndex keys index) {E : Type 0} (r : Result (List ℕ) E) (matchers : List Matcher) (lists : List (Bor (List ℕ)))
    (asked : map (λ list. list.now) lists ≡ flat_map (asked_list index) matchers) (i : ℕ) where
  pub kept_answer : (found : Bor (List ℕ)) → i < length lists → found ≡ get_or lists i found → IfOk r (λ kept. kept ≡ filter (stands_in_all (map (λ list. list.now) lists)) found.now)
      → IfOk r (λ numbers. numbers ≡ numbers_where (asked_hold matchers) keys)
  kept_answer found within is kept =
      let at = at_get lists i found within is in
      IfOk-weaker r (λ kept. kept ≡ filter (stands_in_all (map (λ list. list.now) lists)) found.now) (λ numbers. numbers ≡ numbers_where (asked_hold matchers) keys)
      (λ kept same. same ∙ ap (filter (stands_in_all (map (λ list. list.now) lists))) at.1 ∙ kept_told keys index told matchers (map (λ list. list.now) lists) i asked at.0) kept

  pub all_answer : (count : ℕ) → length lists ≤ i → (0 < length lists → i < length lists) → count ≡ length keys → IfOk r (λ numbers. numbers ≡ range_with_len 0 count)
      → IfOk r (λ numbers. numbers ≡ numbers_where (asked_hold matchers) keys)
  all_answer count behind within same all =
      IfOk-weaker r (λ numbers. numbers ≡ range_with_len 0 count) (λ numbers. numbers ≡ numbers_where (asked_hold matchers) keys)
      (λ numbers is. is ∙ ap (range_with_len 0) same ∙ none_asked keys index told matchers (map (λ list. list.now) lists) asked (ap (map (λ list. list.now)) (none_get lists i behind within))) all
