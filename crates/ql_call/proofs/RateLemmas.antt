-- Increases and rates: two samples, and a product that may not fit.
use Rattle.std.proofs.Common.{◌≡◌, ℕ, zero, suc, ◌-◌, ◌/◌, ◌<◌, ◌≤◌, ◌^◌, List, [], ◌∷◌, ℤ, pos, negsuc, neg_ℤ, ◌<ℤ◌, Some, SFits, length, min, ap, sym, ◌∙◌, ⊎_elim, arith}
use mir.Syntax.{w64}
use Rattle.std.specs.Int.{saturate_to_bits}
use Rattle.std.specs.Prelude.{int_div}
use Rattle.std.proofs.lemmas.Bool.{cases_lt}
use Rattle.std.proofs.lemmas.Int.{ints, clamps}
use Rattle.std.proofs.Math.Nat.{le-div_iff_mul-le}
use Rattle.ql_tree.specs.Arithmetic.{clamped}
use Rattle.ql_call.specs.Numbers.{numbers_in}
use Rattle.ql_call.specs.Over.{of_two}

-- two numbers are enough
pub two_numbers : {X : Type 0} (things : List (X × ℤ)) (given shown : ℤ) → 2 ≤ length things → shown ≡ clamped given
    → Some shown ≡ of_two (numbers_in things) given
two_numbers [] given shown some is = absurd (omega arith)
two_numbers (a ∷ []) given shown some is = absurd (omega arith)
two_numbers (a ∷ b ∷ things) given shown some is = ap Some is

-- beyond an end, the end
above_end : (n : ℕ) → 2 ^ 63 ≤ n → clamped (pos n) ≡ pos 9223372036854775807
above_end n h = omega (arith, ints, clamps)

below_end : (n : ℕ) → 2 ^ 63 ≤ n → clamped (neg_ℤ (pos n)) ≡ negsuc 9223372036854775807
below_end n h = omega (arith, ints, clamps)

-- 2^126 divided by a number of 64 bits is at least 2^63
share_large : (m r : ℕ) → 2 ^ 126 ≤ m → 0 < r → r < 2 ^ 63 → 2 ^ 63 ≤ m / r
share_large m r large some small = (le-div_iff_mul-le some).1 (omega arith)

-- a dividend cut to 128 bits gives the same share
pub share_cut : (s r : ℤ) → pos 0 <ℤ r → SFits w64 r → clamped (int_div (saturate_to_bits 127 s) r) ≡ clamped (int_div s r)
share_cut s (pos zero) some fits = absurd (omega (arith, ints))
share_cut s (negsuc r) some fits = absurd (omega (arith, ints))
share_cut (pos a) (pos (suc b)) some fits =
    let small : suc b < 2 ^ 63 = omega (arith, ints) in
    ⊎_elim
    (λ (h : a < 2 ^ 127). ap (λ n. clamped (pos (n / suc b))) (omega arith))
    (λ (h : 2 ^ 127 ≤ a). above_end _ (share_large (min a (2 ^ 127 - 1)) (suc b) (omega arith) (omega arith) small)
    ∙ sym (above_end _ (share_large a (suc b) (omega arith) (omega arith) small)))
    (cases_lt a (2 ^ 127))
share_cut (negsuc a) (pos (suc b)) some fits =
    let small : suc b < 2 ^ 63 = omega (arith, ints) in
    ⊎_elim
    (λ (h : a < 2 ^ 127). ap (λ n. clamped (neg_ℤ (pos (suc n / suc b)))) (omega arith))
    (λ (h : 2 ^ 127 ≤ a). below_end _ (share_large (suc (min a (2 ^ 127 - 1))) (suc b) (omega arith) (omega arith) small)
    ∙ sym (below_end _ (share_large (suc a) (suc b) (omega arith) (omega arith) small)))
    (cases_lt a (2 ^ 127))
