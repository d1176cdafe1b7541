-- Numbers that 64 bits cut off, and the parts of a span's text.
use Rattle.std.proofs.Common.{◌≡◌, ℕ, ◌+◌, ◌-◌, ◌*◌, ◌≤◌, ◌^◌, false, List, [], ◌∷◌, length, Option, Some, None, option_map, ◌==◌, codes, bytes_eq, refl, ap, sym, ◌∙◌, inl, inr, arith}
use mathlib.Core.Bool.{true≢false}
use Rattle.std.proofs.lemmas.Bool.{cases_lt}
use Rattle.std.proofs.Math.Nat.{mul-le-mul_right, le-mul_of_pos_right}
use Rattle.op_base.specs.Spans.{capped, number_after, span_of, parts_of, units}

-- numbers of which 64 bits hold the same go on alike
pub number-capped : (m n : ℕ) (digits : List ℕ) → capped m ≡ capped n → capped (number_after m digits) ≡ capped (number_after n digits)
number-capped m n [] same = same
number-capped m n (b ∷ digits) same = number-capped (m * 10 + (b - 48)) (n * 10 + (b - 48)) digits (omega (arith, same))

pub number-more : (n b new : ℕ) (digits : List ℕ) → new ≡ capped (capped (n * 10) + (b - 48)) → capped (number_after new digits) ≡ capped (number_after n (b ∷ digits))
number-more n b new digits is = number-capped new (n * 10 + (b - 48)) digits (omega (arith, is))

pub scaled : (n k : ℕ) → 1 ≤ k → capped (capped n * k) ≡ capped (n * k)
scaled n k some =
    elim (cases_lt n (2 ^ 64)) [
      | inl fits ↦ let whole : capped n ≡ n = omega (arith, fits) in ap (λ m. capped (m * k)) whole
      | inr over ↦
          let cut : capped n ≡ 2 ^ 64 - 1 = omega (arith, over) in
          let most : 2 ^ 64 - 1 ≤ (2 ^ 64 - 1) * k = le-mul_of_pos_right (2 ^ 64 - 1) some in
          let more : (2 ^ 64 - 1) * k ≤ n * k = mul-le-mul_right k (omega (arith, over)) in
          let here : capped (capped n * k) ≡ capped ((2 ^ 64 - 1) * k) = ap (λ m. capped (m * k)) cut in
          here ∙ capped-both _ _ most more
    ]
  where
    capped-both : (x y : ℕ) → 2 ^ 64 - 1 ≤ x → x ≤ y → capped x ≡ capped y
    capped-both x y low up = omega (arith, low, up)

pub added : (a : ℕ) (o : Option ℕ) → option_map (λ ms. capped (capped a + ms)) (option_map capped o) ≡ option_map capped (option_map (λ ms. a + ms) o)
added a None = refl
added a (Some ms) = ap (λ n. Some n) (cut a ms)
  where
    cut : (a ms : ℕ) → capped (capped a + capped ms) ≡ capped (a + ms)
    cut a ms = omega arith

-- a text that isn't `0` and isn't empty is its parts
pub span_of-parts : (text : List ℕ) → false ≡ bytes_eq text (codes "0") → false ≡ (length text == 0) → parts_of units text ≡ span_of text
span_of-parts [] other some = absurd (true≢false (sym some))
span_of-parts (b ∷ text) other some = rw (← other) refl
