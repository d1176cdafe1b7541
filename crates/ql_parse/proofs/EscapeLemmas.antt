-- An escape stands for a character, and takes bytes below 128.
use Rattle.std.proofs.Common.{◌≡◌, ℕ, suc, ◌+◌, ◌<◌, ◌≤◌, Bool, true, false, List, [], ◌∷◌, Option, Some, None, ◌==◌, ◌&&◌, cond, length, take, drop, refl, ap, sym, subst, arith, nat_le, if◌then◌else◌, inl}
use Rattle.std.specs.Char.{is_digit, InScalarRange}
use Rattle.std.specs.List.{list_all}
use Rattle.std.specs.Option.{option_and_then, option_map}
use Rattle.std.specs.Str.{IsUtf8}
use Rattle.std.specs.Str.Parse.{digits_value}
use Rattle.std.proofs.lemmas.Bool.Decides.{nat_tests}
use Rattle.std.proofs.lemmas.Option.{cond_some, some_pair_parts}
use Rattle.ql_tree.specs.Strings.{numeral_at, coded, plain_escape, escape_at, is_character, is_seven_bit}
use Rattle.ql_parse.proofs.CutTexts.{behind_passing, behind_byte}

digit_small : (radix : ℕ) → radix ≤ 16 → (b : ℕ) → is_digit b radix ≡ true → b < 128
digit_small radix few b is = grind (arith, nat_tests)

second : (a b : Bool) → (a && b) ≡ true → b ≡ true
second true b is = is
second false true is = refl
second false false is = is

-- the text goes on behind digits
behind_digits : (radix count : ℕ) (text : List ℕ) (v : ℕ) → radix ≤ 16
    → numeral_at radix count text ≡ Some v → IsUtf8 text
    → IsUtf8 (drop count text)
unfolding numeral_at
behind_digits radix count text v few is utf8 =
    let all = cond_some
    (nat_le count (length text) && list_all (λ b. is_digit b radix) (take count text))
    (digits_value radix (take count text)) v is in
    behind_passing (λ b. is_digit b radix) (digit_small radix few) count text utf8
    (second (nat_le count (length text)) (list_all (λ b. is_digit b radix) (take count text)) all.0)

-- what is known of a character that digits of a text write
record IsCoded (before count : ℕ) (text : List ℕ) (c n : ℕ) : Type 0 where
  scalar : InScalarRange c
  taken : n ≡ before + count
  utf8 : IsUtf8 text → IsUtf8 (drop count text)

coded_from : (passes : ℕ → Bool) (before radix count : ℕ) (text : List ℕ) (c n : ℕ) (o : Option ℕ)
    → ((v : ℕ) → passes v ≡ true → InScalarRange v)
    → ((v : ℕ) → o ≡ Some v → IsUtf8 text → IsUtf8 (drop count text))
    → option_and_then {U = ℕ × ℕ} (λ v. if passes v then Some (v, before + count) else None) o
    ≡ Some (c, n) → IsCoded before count text c n
coded_from passes before radix count text c n None scalar utf8 is = absurd (cc)
coded_from passes before radix count text c n (Some v) scalar utf8 is =
    let found = cond_some (passes v) (v, before + count) (c, n) is in
    record {
      scalar = subst InScalarRange (ap (λ p. p.0) found.1) (scalar v found.0);
      taken = sym (ap (λ p. p.1) found.1);
      utf8 = utf8 v refl;
    }

coded_is : (passes : ℕ → Bool) (before radix count : ℕ) (text : List ℕ) (c n : ℕ) → radix ≤ 16
    → ((v : ℕ) → passes v ≡ true → InScalarRange v)
    → coded passes before radix count text ≡ Some (c, n) → IsCoded before count text c n
unfolding coded
coded_is passes before radix count text c n few scalar is =
    coded_from passes before radix count text c n (numeral_at radix count text) scalar
    (λ v e. behind_digits radix count text v few e) is

seven_bit_scalar : (v : ℕ) → is_seven_bit v ≡ true → InScalarRange v
seven_bit_scalar v is = grind (arith, nat_tests)

character_scalar : (v : ℕ) → is_character v ≡ true → InScalarRange v
character_scalar v is = grind (arith, nat_tests)

-- what is known of an escape of a text
pub record IsEscape (text : List ℕ) (c n : ℕ) : Type 0 where
  pub scalar : InScalarRange c
  pub utf8 : IsUtf8 text → IsUtf8 (drop n text)

-- digits from the first byte on
from_here : (count : ℕ) (text : List ℕ) (c n : ℕ) → IsCoded 0 count text c n → IsEscape text c n
from_here count text c n is = record {
  scalar = is.scalar;
  utf8 = let e : count ≡ n =
      omega (arith, is.taken) in λ utf8. subst (λ k. IsUtf8 (drop k text)) e (is.utf8 utf8);
}

-- digits behind a byte
from_next : (count e : ℕ) (text : List ℕ) (c n : ℕ) → e < 128 → IsCoded 1 count text c n
    → IsEscape (e ∷ text) c n
from_next count e text c n small is = record {
  scalar = is.scalar;
  utf8 = let same : suc count ≡ n = omega (arith, is.taken) in
      λ utf8. subst (λ k. IsUtf8 (drop k (e ∷ text))) same
      (is.utf8 (behind_byte [] e text utf8 small));
}

plain_small : (quote e c : ℕ) → quote < 128 → plain_escape quote e ≡ Some c → c < 128
plain_small quote e c small is = grind (arith, nat_tests)

escaped_small : (quote e c : ℕ) → quote < 128 → plain_escape quote e ≡ Some c → e < 128
escaped_small quote e c small is = grind (arith, nat_tests)

plain_from : (quote e : ℕ) (text : List ℕ) (c n : ℕ) (o : Option ℕ)
    → ((v : ℕ) → o ≡ Some v → v < 128) → ((v : ℕ) → o ≡ Some v → e < 128)
    → option_map {U = ℕ × ℕ} (λ v. (v, 1)) o ≡ Some (c, n) → IsEscape (e ∷ text) c n
plain_from quote e text c n None small first is = absurd (cc)
plain_from quote e text c n (Some v) small first is =
    let found = some_pair_parts v c 1 n is in
    let same : v ≡ c = found.0 in
    let one : 1 ≡ n = found.1 in
    let below : v < 128 = small v refl in
    let least : c < 0xD800 = omega (arith, same, below) in
    record {
      scalar = inl least;
      utf8 = λ utf8. subst (λ k. IsUtf8 (drop k (e ∷ text))) one
          (behind_byte [] e text utf8 (first v refl));
    }

-- the character that an escape stands for is one, and the text goes on behind it
pub escape_is : (quote : ℕ) (text : List ℕ) (c n : ℕ) → quote < 128
    → escape_at quote text ≡ Some (c, n) → IsEscape text c n
unfolding escape_at
escape_is quote [] c n small is = absurd (cc)
escape_is quote (e ∷ t) c n small is =
    by_first (is_digit e 8) (e == 120) (e == 117) (e == 85) refl refl refl is
  where
    by_first : (octal x u long : Bool) → (e == 120) ≡ x → (e == 117) ≡ u → (e == 85) ≡ long
        → cond octal (coded is_seven_bit 0 8 3 (e ∷ t)) (cond x (coded is_seven_bit 1 16 2 t)
        (cond u (coded is_character 1 16 4 t)
        (cond long (coded is_character 1 16 8 t)
        (option_map {U = ℕ × ℕ} (λ v. (v, 1)) (plain_escape quote e)))))
        ≡ Some (c, n) → IsEscape (e ∷ t) c n
    by_first true x u long b d f at =
        from_here 3 (e ∷ t) c n
        (coded_is is_seven_bit 0 8 3 (e ∷ t) c n (omega arith) seven_bit_scalar at)
    by_first false true u long b d f at =
        from_next 2 e t c n (grind (arith, nat_tests))
        (coded_is is_seven_bit 1 16 2 t c n (omega arith) seven_bit_scalar at)
    by_first false false true long b d f at =
        from_next 4 e t c n (grind (arith, nat_tests))
        (coded_is is_character 1 16 4 t c n (omega arith) character_scalar at)
    by_first false false false true b d f at =
        from_next 8 e t c n (grind (arith, nat_tests))
        (coded_is is_character 1 16 8 t c n (omega arith) character_scalar at)
    by_first false false false false b d f at =
        plain_from quote e t c n (plain_escape quote e) (λ v g. plain_small quote e v small g)
        (λ v g. escaped_small quote e v small g) at
