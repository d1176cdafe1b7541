-- The window of a run is the part between two places; its last reading.
use Rattle.std.proofs.Common.{◌≡◌, ℕ, zero, suc, ◌+◌, ◌-◌, ◌<◌, ◌≤◌, ℤ, ◌<ℤ◌, Bool, true, false, not, ◌&&◌, List, [], ◌∷◌, length, cond, take, drop, filter, Option, Some, None, if◌then◌else◌, slice_get, slice_range, int_le, refl, ap, sym, ◌∙◌, arith, ⊎_elim}
use mathlib.Core.Bool.{true≢false}
use Rattle.std.specs.declared.cmp.Ordering.TheVariants.{Less}
use Rattle.std.specs.Cmp.{first_so, second_so, int_ranked}
use Rattle.std.specs.FinMap.Entries.{below_all}
use Rattle.std.proofs.lemmas.Bool.{cases_Bool}
use Rattle.std.proofs.lemmas.Int.{ints}
use Rattle.op_base.specs.declared.moment.Moment.{Moment}
use Rattle.srv_store.specs.Stores.{is_within}
use Rattle.srv_store.specs.Runs.{front, Reading, Run, IsRun, moment_cmp, later, last_of, window_in, newest_in}
use Rattle.srv_store.proofs.PlaceLemmas.{is_less}

-- ---- tests one after the other
pub filter_both : {X : Type 0} (p q : X → Bool) (xs : List X) → filter (λ x. p x && q x) xs ≡ filter q (filter p xs)
filter_both p q [] = refl
filter_both p q (x ∷ xs) =
    elim (p x) as (λ b. cond (b && q x) (x ∷ filter (λ x. p x && q x) xs) (filter (λ x. p x && q x) xs) ≡ filter q (cond b (x ∷ filter p xs) (filter p xs))) [
      | true ↦ ap (λ l. cond (q x) (x ∷ l) l) (filter_both p q xs)
      | false ↦ filter_both p q xs
    ]

and_swap : (a b : Bool) → (a && b) ≡ (b && a)
and_swap true true = refl
and_swap true false = refl
and_swap false true = refl
and_swap false false = refl

filter_other : {X : Type 0} (p q : X → Bool) (xs : List X) → filter (λ x. p x && q x) xs ≡ filter (λ x. q x && p x) xs
filter_other p q [] = refl
filter_other p q (x ∷ xs) =
    ap (λ b. cond b (x ∷ filter (λ x. p x && q x) xs) (filter (λ x. p x && q x) xs)) (and_swap (p x) (q x))
    ∙ ap (λ l. cond (q x && p x) (x ∷ l) l) (filter_other p q xs)

-- what fails in front isn't among the first
none_in_front : {X : Type 0} (p : X → Bool) (n : ℕ) (xs : List X) → n ≤ front (λ x. not (p x)) xs → filter p (take n xs) ≡ []
none_in_front p zero xs below = refl
none_in_front p (suc n) [] below = refl
none_in_front p (suc n) (x ∷ xs) below =
    elim (p x) as (λ b. suc n ≤ cond (not b) (suc (front (λ x. not (p x)) xs)) 0 → cond b (x ∷ filter p (take n xs)) (filter p (take n xs)) ≡ []) [
      | true ↦ λ none. absurd (omega (arith, none))
      | false ↦ λ more. none_in_front p n xs (omega (arith, more))
    ] below

-- the front of what is left
front_left : {X : Type 0} (q : X → Bool) (n : ℕ) (xs : List X) → n ≤ front q xs → front q xs ≡ n + front q (drop n xs)
front_left q zero xs below = omega arith
front_left q (suc n) [] below = absurd (omega arith)
front_left q (suc n) (x ∷ xs) below =
    elim (q x) as (λ b. suc n ≤ cond b (suc (front q xs)) 0 → cond b (suc (front q xs)) 0 ≡ suc n + front q (drop n xs)) [
      | true ↦ λ more. omega (arith, front_left q n xs (omega (arith, more)))
      | false ↦ λ none. absurd (omega (arith, none))
    ] below

-- ---- tests of moments over a run
module _ (p : Moment → Bool) where
  -- a test that fails of all later ones
  module _ (falls : (x y : Moment) → moment_cmp x y ≡ Less → p y ≡ true → p x ≡ true) where
    none_later : (x : Moment) (run : Run) → p x ≡ false → below_all moment_cmp x run ≡ true → filter (λ r. p r.0) run ≡ []
    none_later x [] fails below = refl
    none_later x (r ∷ run) fails below =
        elim (p r.0) as (λ b. p r.0 ≡ b → cond b (r ∷ filter (λ r. p r.0) run) (filter (λ r. p r.0) run) ≡ []) [
          | true ↦ λ holds. absurd (true≢false (sym (falls x r.0 (is_less _ (first_so _ _ below)) holds) ∙ fails))
          | false ↦ λ _. none_later x run fails (second_so _ _ below)
        ] refl

    filter_front : (run : Run) → IsRun run → filter (λ r. p r.0) run ≡ take (front (λ r. p r.0) run) run
    filter_front [] sorted = refl
    filter_front (r ∷ run) sorted =
        elim (p r.0) as (λ b. p r.0 ≡ b → cond b (r ∷ filter (λ r. p r.0) run) (filter (λ r. p r.0) run) ≡ take (cond b (suc (front (λ r. p r.0) run)) 0) (r ∷ run)) [
          | true ↦ λ _. ap (λ l. r ∷ l) (filter_front run (second_so _ _ sorted))
          | false ↦ λ fails. none_later r.0 run fails (first_so _ _ sorted)
        ] refl

  -- a test that holds of all later ones
  module _ (rises : (x y : Moment) → moment_cmp x y ≡ Less → p x ≡ true → p y ≡ true) where
    all_later : (x : Moment) (run : Run) → p x ≡ true → below_all moment_cmp x run ≡ true → filter (λ r. p r.0) run ≡ run
    all_later x [] holds below = refl
    all_later x (r ∷ run) holds below =
        ap (λ b. cond b (r ∷ filter (λ r. p r.0) run) (filter (λ r. p r.0) run)) (rises x r.0 (is_less _ (first_so _ _ below)) holds)
        ∙ ap (λ l. r ∷ l) (all_later x run holds (second_so _ _ below))

    filter_rest : (run : Run) → IsRun run → filter (λ r. p r.0) run ≡ drop (front (λ r. not (p r.0)) run) run
    filter_rest [] sorted = refl
    filter_rest (r ∷ run) sorted =
        elim (p r.0) as (λ b. p r.0 ≡ b → cond b (r ∷ filter (λ r. p r.0) run) (filter (λ r. p r.0) run) ≡ drop (cond (not b) (suc (front (λ r. not (p r.0)) run)) 0) (r ∷ run)) [
          | true ↦ λ holds. ap (λ l. r ∷ l) (all_later r.0 run holds (first_so _ _ sorted))
          | false ↦ λ _. filter_rest run (second_so _ _ sorted)
        ] refl

sorted_drop : (n : ℕ) (run : Run) → IsRun run → IsRun (drop n run)
sorted_drop zero run sorted = sorted
sorted_drop (suc n) [] sorted = refl
sorted_drop (suc n) (r ∷ run) sorted = sorted_drop n run (second_so _ _ sorted)

module _ (from to : ℤ) where
  pub until_falls : (x y : Moment) → moment_cmp x y ≡ Less → int_le y.0 to ≡ true → int_le x.0 to ≡ true
  until_falls x y less holds =
      let below : x.0 <ℤ y.0 = int_ranked x.0 y.0 Less (sym less) in
      ⊎_elim (λ is. is) (λ (isnt : int_le x.0 to ≡ false). absurd (omega (arith, ints))) (cases_Bool (int_le x.0 to))

  from_rises : (x y : Moment) → moment_cmp x y ≡ Less → int_le from x.0 ≡ true → int_le from y.0 ≡ true
  from_rises x y less holds =
      let below : x.0 <ℤ y.0 = int_ranked x.0 y.0 Less (sym less) in
      ⊎_elim (λ is. is) (λ (isnt : int_le from y.0 ≡ false). absurd (omega (arith, ints))) (cases_Bool (int_le from y.0))

  pub before_falls : (x y : Moment) → moment_cmp x y ≡ Less → not (int_le from y.0) ≡ true → not (int_le from x.0) ≡ true
  before_falls x y less fails =
      ⊎_elim (λ (holds : int_le from x.0 ≡ true). absurd (true≢false (sym fails ∙ ap not (from_rises x y less holds)))) (λ (isnt : int_le from x.0 ≡ false). ap not isnt) (cases_Bool (int_le from x.0))

  -- the window lies between the places of its ends
  pub window_between : (run : Run) (i j : ℕ) → IsRun run → i ≡ front (λ r. not (int_le from r.0.0)) run → j ≡ front (λ r. int_le r.0.0 to) run → i < j
      → slice_range run i j ≡ window_in from to run
  window_between run i j sorted first last order =
      let left = front_left (λ (r : Reading). int_le r.0.0 to) i run (omega (arith, last)) in
      let count : j - i ≡ front (λ (r : Reading). int_le r.0.0 to) (drop i run) = omega (arith, left, last) in
      ap (λ n. take n (drop i run)) count
      ∙ sym (filter_front (λ m. int_le m.0 to) until_falls (drop i run) (sorted_drop i run sorted))
      ∙ ap (λ n. filter (λ (r : Reading). int_le r.0.0 to) (drop n run)) first
      ∙ ap (filter (λ (r : Reading). int_le r.0.0 to)) (sym (filter_rest (λ m. int_le from m.0) from_rises run sorted))
      ∙ sym (filter_both (λ (r : Reading). int_le from r.0.0) (λ r. int_le r.0.0 to) run)

  -- nothing is in a window that ends before it begins
  pub window_empty : (run : Run) (i j : ℕ) → IsRun run → i ≡ front (λ r. not (int_le from r.0.0)) run → j ≡ front (λ r. int_le r.0.0 to) run → j ≤ i
      → [] ≡ window_in from to run
  window_empty run i j sorted first last order =
      sym (filter_other (λ (r : Reading). int_le from r.0.0) (λ r. int_le r.0.0 to) run
      ∙ filter_both (λ (r : Reading). int_le r.0.0 to) (λ r. int_le from r.0.0) run
      ∙ ap (filter (λ (r : Reading). int_le from r.0.0)) (filter_front (λ m. int_le m.0 to) until_falls run sorted)
      ∙ none_in_front (λ (r : Reading). int_le from r.0.0) (front (λ (r : Reading). int_le r.0.0 to) run) run (omega (arith, first, last)))

  -- the last reading of the window
  pub newest_last : (run : Run) → last_of (window_in from to run) ≡ newest_in from to run
  newest_last [] = refl
  newest_last (r ∷ run) =
      elim (is_within from to r.0) as (λ b. last_of (cond b (r ∷ window_in from to run) (window_in from to run)) ≡ later (newest_in from to run) (if b then Some r else None)) [
        | true ↦ ap (λ o. later o (Some r)) (newest_last run)
        | false ↦ newest_last run ∙ sym (or_none (newest_in from to run))
      ]
    where
      or_none : (o : Option Reading) → later o None ≡ o
      or_none None = refl
      or_none (Some q) = refl

later_some : {X : Type 0} (o : Option X) (x y : X) → later (later o (Some y)) (Some x) ≡ later o (Some y)
later_some None x y = refl
later_some (Some z) x y = refl

pub last-get : {X : Type 0} (xs : List X) → slice_get xs (length xs - 1) ≡ last_of xs
last-get [] = refl
last-get (x ∷ []) = refl
last-get (x ∷ y ∷ xs) =
    let outer : length (x ∷ y ∷ xs) - 1 ≡ suc (length xs) = omega arith in
    let inner : length xs ≡ length (y ∷ xs) - 1 = omega arith in
    ap (slice_get (x ∷ y ∷ xs)) outer ∙ ap (slice_get (y ∷ xs)) inner ∙ last-get (y ∷ xs) ∙ sym (later_some (last_of xs) x y)
