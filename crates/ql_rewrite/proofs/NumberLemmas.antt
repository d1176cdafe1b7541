-- Numbers and durations as tokens, and what they are read as.
use Rattle.std.proofs.Common.{◌≡◌, ℕ, ◌/◌, ◌^◌, ◌<◌, ◌≤◌, pos, Bool, true, false, List, [], ◌∷◌, ◌++◌, Some, length, cond, codes, decimal, nat_le, is_ok, ◌==◌, ◌&&◌, refl, ap, ◌∙◌, div-le_self, arith}
use Rattle.std.specs.Option.{option_map}
use Rattle.std.specs.List.{list_all}
use Rattle.std.specs.Int.{IsInRange}
use Rattle.std.specs.Str.Parse.{AllDigits, digits_value}
use Rattle.std.proofs.lemmas.Bool.Decides.{nat_tests}
use Rattle.std.proofs.lemmas.Fmt.{decimal_is_IsNumeral}
use Rattle.std.proofs.lemmas.List.Folds.{list_all-append}
use Rattle.std.proofs.lemmas.Str.Parse.{digit_from_value}
use Rattle.op_base.specs.Names.{is_digit, is_metric_byte}
use Rattle.op_base.specs.Spans.{longest, unit_name, unit_size, unit_dividing, span_read, span_written}
use Rattle.op_base.proofs.SpanReadLemmas.{span_read-written}
use Rattle.ql_tree.specs.Durations.{is_duration, duration_of, duration_text, span_or_none}
use Rattle.ql_tree.specs.Tokens.{MOST, token_at, numeric_kind}
use Rattle.ql_tree.specs.Words.{span_of}
use Rattle.ql_tree.specs.declared.token.TokenKind.TheVariants.{Number, Duration}
use Rattle.ql_rewrite.proofs.RunLemmas.{begins, begins_both, digit_is_metric, numeric_token, with_length}

in_range : (b : ℕ) → IsInRange 48 57 b → is_digit b ≡ true
in_range b h = grind (arith, nat_tests, h.0, h.1)

all_digits : (ds : List ℕ) → AllDigits 10 ds → list_all is_digit ds ≡ true
all_digits [] all = refl
all_digits (d ∷ ds) all =
    let first : is_digit d ≡ true = in_range d (digit_from_value d all.0) in rw first (all_digits ds all.1)

digits_are_metric : (ds : List ℕ) → list_all is_digit ds ≡ true → list_all is_metric_byte ds ≡ true
digits_are_metric [] all = refl
digits_are_metric (d ∷ ds) all =
    let first : is_metric_byte d ≡ true = digit_is_metric d (grind arith) in
    let others : list_all is_metric_byte ds ≡ true = digits_are_metric ds (grind arith) in
    rw (first, others) refl

begins_so : (p : ℕ → Bool) (bs : List ℕ) → 0 < length bs → list_all p bs ≡ true → begins p bs ≡ true
begins_so p [] some all = absurd (omega arith)
begins_so p (b ∷ bs) some all = grind arith

-- digits in front, then digits and letters
pub record IsNumeric (bs : List ℕ) : Type 0 where
  pub first : begins is_digit bs ≡ true
  pub metric : list_all is_metric_byte bs ≡ true

pub begins_metric : (bs : List ℕ) → IsNumeric bs → begins is_metric_byte bs ≡ true
begins_metric [] is = let first = is.first in cc
begins_metric (b ∷ bs) is = digit_is_metric b is.first

-- a number
module _ (n : ℕ) (small : n < 2 ^ 64) where
  decimal_digits : list_all is_digit (decimal n) ≡ true
  decimal_digits = all_digits (decimal n) (decimal_is_IsNumeral n small).0.1

  pub decimal_is_numeric : IsNumeric (decimal n)
  decimal_is_numeric = record {
    first = begins_so is_digit (decimal n) (decimal_is_IsNumeral n small).0.0 decimal_digits;
    metric = digits_are_metric (decimal n) decimal_digits;
  }

  pub decimal_value : digits_value 10 (decimal n) ≡ n
  decimal_value = (decimal_is_IsNumeral n small).1

number_kind : (n : ℕ) → n ≤ MOST → numeric_kind (decimal n) ≡ Some Number
unfolding numeric_kind
number_kind n most =
    let digits : list_all is_digit (decimal n) ≡ true = decimal_digits n (omega arith) in
    let value : digits_value 10 (decimal n) ≡ n = decimal_value n (omega arith) in
    let fits : nat_le n MOST ≡ true = grind (arith, nat_tests) in
    rw (digits, value, fits) refl

pub number_token : (n : ℕ) (rest : List ℕ) → n ≤ MOST → begins is_metric_byte rest ≡ false
    → token_at (decimal n ++ rest) ≡ Some (Number, length (decimal n))
number_token n rest most stop =
    let is : IsNumeric (decimal n) = decimal_is_numeric n (omega arith) in
    numeric_token (decimal n) rest is.first is.metric stop
    ∙ ap (option_map (with_length (length (decimal n)))) (number_kind n most)

-- a number with a unit
unit_metric : (n : ℕ) → list_all is_metric_byte (unit_name (unit_dividing n)) ≡ true
unit_metric n = grind arith

unit_no_digits : (n : ℕ) → list_all is_digit (unit_name (unit_dividing n)) ≡ false
unit_no_digits n = grind arith

-- digits in front, and letters behind
pub record IsAmount (bs : List ℕ) : Type 0 where
  pub numeric : IsNumeric bs
  pub other : list_all is_digit bs ≡ false

with_unit : (k n : ℕ) → k < 2 ^ 64 → IsAmount (decimal k ++ unit_name (unit_dividing n))
with_unit k n small =
    let is : IsNumeric (decimal k) = decimal_is_numeric k small in
    record {
      numeric = record {
        first = begins_both is_digit (decimal k) (unit_name (unit_dividing n)) is.first;
        metric = list_all-append is_metric_byte (decimal k) (unit_name (unit_dividing n)) ∙ both is.metric (unit_metric n);
      };
      other = list_all-append is_digit (decimal k) (unit_name (unit_dividing n))
          ∙ neither (list_all is_digit (decimal k)) (unit_no_digits n);
    }
  where
    both : {x y : Bool} → x ≡ true → y ≡ true → (x && y) ≡ true
    both x y = rw (x, y) refl

    neither : (x : Bool) {y : Bool} → y ≡ false → (x && y) ≡ false
    neither true none = none
    neither false none = refl

pub span_is_amount : (n : ℕ) → n ≤ longest → IsAmount (span_written n)
span_is_amount n small =
    elim (n == 0) as (λ t. IsAmount (cond t (codes "0s") (decimal (n / unit_size (unit_dividing n))
    ++ unit_name (unit_dividing n)))) [
      | true ↦ record { numeric = record { first = refl; metric = refl }; other = refl }
      | false ↦ with_unit (n / unit_size (unit_dividing n)) n (below n (unit_size (unit_dividing n)) small)
    ]
  where
    below : (n size : ℕ) → n ≤ longest → n / size < 2 ^ 64
    below n size small = omega (arith, small, div-le_self n size)

duration_kind : (n : ℕ) → n ≤ longest → numeric_kind (span_written n) ≡ Some Duration
unfolding numeric_kind is_duration
duration_kind n small =
    let letters : list_all is_digit (span_written n) ≡ false = (span_is_amount n small).other in
    let read : is_ok (span_read (span_written n)) ≡ true = ap is_ok (span_read-written n small) in
    rw (letters, read) refl

pub duration_token : (n : ℕ) (rest : List ℕ) → n ≤ longest → begins is_metric_byte rest ≡ false
    → token_at (duration_text n ++ rest) ≡ Some (Duration, length (duration_text n))
unfolding duration_text
duration_token n rest small stop =
    let is : IsNumeric (span_written n) = (span_is_amount n small).numeric in
    numeric_token (span_written n) rest is.first is.metric stop
    ∙ ap (option_map (with_length (length (span_written n)))) (duration_kind n small)

pub duration_begins : (n : ℕ) → n ≤ longest → begins is_metric_byte (duration_text n) ≡ true
unfolding duration_text
duration_begins n small = begins_metric (span_written n) (span_is_amount n small).numeric

pub duration_value : (n : ℕ) → n ≤ longest → duration_of (duration_text n) ≡ span_of (pos n)
unfolding duration_of duration_text
duration_value n small = ap span_or_none (span_read-written n small)
