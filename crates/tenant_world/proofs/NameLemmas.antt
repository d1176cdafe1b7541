-- What names and thin texts hold, and what they don't.
use Rattle.std.proofs.Common.{◌≡◌, ℕ, ◌<◌, Bool, true, false, not, ◌&&◌, ◌==◌, ◌-◌, List, [], ◌∷◌, length, nat_le, refl, sym, ap, ◌∙◌, arith}
use mathlib.Core.Bool.{true≢false}
use Rattle.std.specs.List.{AllByRecursion, list_all}
use Rattle.std.specs.Cmp.{first_so, second_so}
use Rattle.std.proofs.lemmas.Bool.Decides.{nat_tests}
use Rattle.op_base.specs.Names.{is_namespace, is_part, is_part_byte, is_lower_or_digit, passes_at}
use Rattle.op_relabel.specs.Steps.{is_no_dollar}
use Rattle.op_thin.specs.ThinProbes.{is_thin_text}

-- a byte that the test refuses is no byte that passes
differs : (p : ℕ → Bool) (b c : ℕ) → p c ≡ false → p b ≡ true → (b == c) ≡ false
differs p b c refused passed =
    elim (b == c) as (λ t. (b == c) ≡ t → t ≡ false) [
      | true ↦ λ is. absurd (true≢false (sym passed ∙ ap p (same is) ∙ refused))
      | false ↦ λ _. refl
    ] refl
  where
    same : (b == c) ≡ true → b ≡ c
    same is = grind (arith, nat_tests, is)

each_differs : (p : ℕ → Bool) (c : ℕ) (text : List ℕ) → p c ≡ false → list_all p text ≡ true → AllByRecursion (λ b. (b == c) ≡ false) text
each_differs p c [] refused h = tt
each_differs p c (b ∷ text) refused h =
    (differs p b c refused (first_so (p b) (list_all p text) h), each_differs p c text refused (second_so (p b) (list_all p text) h))

part_bytes : (n : List ℕ) → is_namespace n ≡ true → list_all is_part_byte n ≡ true
part_bytes n h =
    second_so (passes_at is_lower_or_digit n 0 && passes_at is_lower_or_digit n (length n - 1)) (list_all is_part_byte n)
    (second_so (nat_le (length n) 63) (is_part n) h)

-- a namespace's name isn't empty, and holds no slash and no `$`
pub name-some : (n : List ℕ) → is_namespace n ≡ true → 0 < length n
name-some [] h = absurd (true≢false (sym h))
name-some (b ∷ n) h = omega arith

pub name-slash : (n : List ℕ) → is_namespace n ≡ true → AllByRecursion (λ b. (b == 47) ≡ false) n
name-slash n h = each_differs is_part_byte 47 n refl (part_bytes n h)

no_dollar : (text : List ℕ) → AllByRecursion (λ b. (b == 36) ≡ false) text → list_all is_no_dollar text ≡ true
no_dollar [] h = refl
no_dollar (b ∷ text) h = ap (λ t. not t && list_all is_no_dollar text) h.0 ∙ no_dollar text h.1

pub name-plain : (n : List ℕ) → is_namespace n ≡ true → list_all is_no_dollar n ≡ true
name-plain n h = no_dollar n (each_differs is_part_byte 36 n refl (part_bytes n h))

-- a thin text isn't empty, and holds no `$`
pub thin-some : (text : List ℕ) → is_thin_text text ≡ true → 0 < length text
thin-some [] h = absurd (true≢false (sym h))
thin-some (b ∷ text) h = omega arith

pub thin-plain : (text : List ℕ) → is_thin_text text ≡ true → list_all is_no_dollar text ≡ true
thin-plain [] h = refl
thin-plain (b ∷ text) h = h
