-- Sums and counts over neighbours.
use Rattle.std.proofs.Common.{◌≡◌, ◌+◌, ℤ, ◌+ℤ◌, List, [], ◌∷◌, Bool, cond, fold, map, not, refl, sym, ap, ◌∙◌}
use Rattle.std.proofs.Math.IntN.{+ℤ_assoc, +ℤ_idl, +ℤ_idr}
use Rattle.std.proofs.lemmas.List.Sums.{sum_by-cons}
use Rattle.std.specs.List.{count_by}
use Rattle.std.specs.Ordering.{int_eq}
use Rattle.std.specs.Prelude.{int_lt}
use Rattle.ql_call.specs.Elements.{total}
use Rattle.ql_call.specs.Neighbours.{neighbours, AreOverNeighbours}
use Rattle.ql_call.specs.Over.{changes_in, increase_in, one_if, resets_in, rise}

-- a sum from a number on
total-from : (n : ℤ) (numbers : List ℤ) → fold ◌+ℤ◌ n numbers ≡ n +ℤ total numbers
total-from n [] = sym (+ℤ_idr n)
total-from n (m ∷ numbers) =
    total-from (n +ℤ m) numbers ∙ +ℤ_assoc n m (total numbers)
    ∙ ap (λ rest. n +ℤ rest) (sym (ap (λ k. fold ◌+ℤ◌ k numbers) (+ℤ_idl m) ∙ total-from m numbers))

total-cons : (n : ℤ) (numbers : List ℤ) → total (n ∷ numbers) ≡ n +ℤ total numbers
total-cons n numbers = ap (λ k. fold ◌+ℤ◌ k numbers) (+ℤ_idl n) ∙ total-from n numbers

abbrev rises_in : List ℤ → List ℤ
rises_in numbers = map (λ (pair : ℤ × ℤ). rise pair.0 pair.1) (neighbours numbers)

increase : (numbers : List ℤ) → increase_in numbers ≡ total (rises_in numbers)
increase [] = refl
increase (n ∷ []) = refl
increase (n ∷ m ∷ numbers) =
    ap (λ rest. rise n m +ℤ rest) (increase (m ∷ numbers)) ∙ sym (total-cons (rise n m) (rises_in (m ∷ numbers)))

abbrev differ : ℤ × ℤ → Bool
differ pair = not (int_eq pair.0 pair.1)

changes : (numbers : List ℤ) → changes_in numbers ≡ count_by differ (neighbours numbers)
changes [] = refl
changes (n ∷ []) = refl
changes (n ∷ m ∷ numbers) =
    ap (λ rest. one_if (differ (n, m)) + rest) (changes (m ∷ numbers))
    ∙ sym (sum_by-cons (λ (pair : ℤ × ℤ). cond (differ pair) 1 0) (n, m) (neighbours (m ∷ numbers)))

abbrev falls : ℤ × ℤ → Bool
falls pair = int_lt pair.1 pair.0

resets : (numbers : List ℤ) → resets_in numbers ≡ count_by falls (neighbours numbers)
resets [] = refl
resets (n ∷ []) = refl
resets (n ∷ m ∷ numbers) =
    ap (λ rest. one_if (falls (n, m)) + rest) (resets (m ∷ numbers))
    ∙ sym (sum_by-cons (λ (pair : ℤ × ℤ). cond (falls pair) 1 0) (n, m) (neighbours (m ∷ numbers)))

pub are-over-neighbours : AreOverNeighbours
are-over-neighbours = record { increase = increase; changes = changes; resets = resets }
