-- A written span is read again.
use Rattle.std.proofs.Common.{◌≡◌, ℕ, ◌+◌, ◌*◌, ◌/◌, ◌%◌, ◌<◌, ◌≤◌, ◌^◌, ℤ, pos, nat_abs, true, false, List, [], ◌∷◌, ◌++◌, length, take, drop, Option, Some, None, Result, Ok, Err, IfOk, ◌≤ℤ◌, negsuc, option_map, ◌==◌, ◌&&◌, nat_lt, codes, bytes_eq, decimal, cond, refl, ap, ◌∙◌, add-zero, zero-add, length-append, div-le_self, arith}
use Rattle.std.specs.List.{prefix_len}
use Rattle.std.specs.Str.Parse.{AllDigits}
use Rattle.std.specs.Int.{IsInRange}
use Rattle.std.proofs.Math.Seq.{drop-append_seam, take-append_seam, drop-append-add}
use Rattle.std.proofs.Math.Nat.{mod-add-div'}
use Rattle.std.proofs.lemmas.List.{drop_all}
use Rattle.std.proofs.lemmas.Int.{ints}
use Rattle.std.proofs.lemmas.Bool.Decides.{nat_tests}
use Rattle.std.specs.Cmp.Lexicographic.{bytes_decides}
use Rattle.std.proofs.lemmas.Str.Parse.{IsNumeralModel, numerals_by_fold, tells_digits, digit_from_value}
use Rattle.std.proofs.lemmas.Fmt.{decimal_is_IsNumeral, digits_value-decimal}
use Rattle.op_base.specs.declared.span.Span.{Span}
use Rattle.op_base.specs.declared.span.SpanFault.TheVariants.{Long}
use Rattle.op_base.specs.declared.span.TimeUnit.{TimeUnit}
use Rattle.op_base.specs.declared.span.TimeUnit.TheVariants.{Year, Week, Day, Hour, Minute, Second, Millisecond}
use Rattle.op_base.specs.Names.{is_lower, is_digit}
use Rattle.op_base.specs.Spans.{unit_name, unit_size, units, longest, number_after, digits_in, unit_in, has_part, amount_of, rest_of, parts_of, span_of, span_read, span_within, unit_dividing, span_written}

own : IsNumeralModel (AllDigits 10) (number_after 0)
own = numerals_by_fold (AllDigits 10) tells_digits number_after (record { empty = λ n. refl; more = λ n c cs h. refl })

in_range : (b : ℕ) → IsInRange 48 57 b → is_digit b ≡ true
in_range b h = grind (arith, nat_tests, h.0, h.1)

-- the digits in front of a text whose next byte is none
digits-before : (ds : List ℕ) (b : ℕ) (text : List ℕ) → AllDigits 10 ds → is_digit b ≡ false → digits_in (ds ++ b ∷ text) ≡ length ds
digits-before [] b text all other = ap (λ t. cond t (1 + prefix_len is_digit text) 0) other
digits-before (d ∷ ds) b text all other =
    let rest : prefix_len is_digit (ds ++ b ∷ text) ≡ length ds = digits-before ds b text all.1 other in
    ap (λ t. cond t (1 + prefix_len is_digit (ds ++ b ∷ text)) 0) (in_range d (digit_from_value d all.0)) ∙ omega (arith, rest)

-- a number in front of a unit's name
module _ (ds : List ℕ) (all : AllDigits 10 ds) (some : 0 < length ds) where
  abbrev text_with : TimeUnit → List ℕ
  text_with unit = ds ++ unit_name unit

  digits-with : (unit : TimeUnit) → digits_in (text_with unit) ≡ length ds
  digits-with Year = digits-before ds 121 [] all refl
  digits-with Week = digits-before ds 119 [] all refl
  digits-with Day = digits-before ds 100 [] all refl
  digits-with Hour = digits-before ds 104 [] all refl
  digits-with Minute = digits-before ds 109 [] all refl
  digits-with Second = digits-before ds 115 [] all refl
  digits-with Millisecond = digits-before ds 109 (115 ∷ []) all refl

  name-whole : (unit : TimeUnit) → take (prefix_len is_lower (unit_name unit)) (unit_name unit) ≡ unit_name unit
  name-whole Year = refl
  name-whole Week = refl
  name-whole Day = refl
  name-whole Hour = refl
  name-whole Minute = refl
  name-whole Second = refl
  name-whole Millisecond = refl

  unit-with : (unit : TimeUnit) → unit_in (text_with unit) ≡ unit_name unit
  unit-with unit =
      ap (λ rest. take (prefix_len is_lower rest) rest) (ap (λ n. drop n (text_with unit)) (digits-with unit) ∙ drop-append_seam ds (unit_name unit)) ∙ name-whole unit

  has-with : (unit other : TimeUnit) → has_part other (text_with unit) ≡ bytes_eq (unit_name unit) (unit_name other)
  has-with unit other =
      ap (λ n. nat_lt 0 n && bytes_eq (unit_in (text_with unit)) (unit_name other)) (digits-with unit)
      ∙ ap (λ t. t && bytes_eq (unit_in (text_with unit)) (unit_name other)) (counts (length ds) some)
      ∙ ap (λ name. bytes_eq name (unit_name other)) (unit-with unit)
    where
      counts : (n : ℕ) → 0 < n → nat_lt 0 n ≡ true
      counts n h = grind (arith, nat_tests, h)

  amount-with : (unit : TimeUnit) → has_part unit (text_with unit) ≡ true → amount_of unit (text_with unit) ≡ number_after 0 ds * unit_size unit
  amount-with unit is =
      ap (λ t. cond t (number_after 0 (take (digits_in (text_with unit)) (text_with unit)) * unit_size unit) 0) is
      ∙ ap (λ n. number_after 0 (take n (text_with unit)) * unit_size unit) (digits-with unit)
      ∙ ap (λ digits. number_after 0 digits * unit_size unit) (take-append_seam ds (unit_name unit))

  rest-with : (unit : TimeUnit) → has_part unit (text_with unit) ≡ true → rest_of unit (text_with unit) ≡ []
  rest-with unit is =
      ap (λ t. cond t (drop (digits_in (text_with unit) + length (unit_name unit)) (text_with unit)) (text_with unit)) is
      ∙ ap (λ n. drop (n + length (unit_name unit)) (text_with unit)) (digits-with unit)
      ∙ drop-append-add ds (unit_name unit) (length (unit_name unit)) ∙ drop_all (length (unit_name unit)) (unit_name unit) (omega arith)

-- no more text, no more parts
parts-none : (left : List TimeUnit) → parts_of left [] ≡ Some 0
parts-none [] = refl
parts-none (unit ∷ left) = ap (option_map (λ ms. 0 + ms)) (parts-none left)

skip : (unit : TimeUnit) (left : List TimeUnit) (text : List ℕ) → has_part unit text ≡ false → parts_of (unit ∷ left) text ≡ parts_of left text
skip unit left text is =
    ap (λ t. option_map (λ ms. cond t (number_after 0 (take (digits_in text) text) * unit_size unit) 0 + ms) (parts_of left (cond t (drop (digits_in text + length (unit_name unit)) text) text))) is
    ∙ same (parts_of left text)
  where
    same : (o : Option ℕ) → option_map (λ ms. 0 + ms) o ≡ o
    same None = refl
    same (Some ms) = ap (λ n. Some n) (zero-add ms)

last : (unit : TimeUnit) (left : List TimeUnit) (text : List ℕ) (amount : ℕ) → amount_of unit text ≡ amount → rest_of unit text ≡ [] → parts_of (unit ∷ left) text ≡ Some amount
last unit left text amount is none =
    ap (λ rest. option_map (λ ms. amount_of unit text + ms) (parts_of left rest)) none ∙ ap (option_map (λ ms. amount_of unit text + ms)) (parts-none left)
    ∙ ap (λ n. Some n) (add-zero (amount_of unit text) ∙ is)

-- the units from one on
abbrev from_millisecond : List TimeUnit
from_millisecond = Millisecond ∷ []

abbrev from_second : List TimeUnit
from_second = Second ∷ from_millisecond

abbrev from_minute : List TimeUnit
from_minute = Minute ∷ from_second

abbrev from_hour : List TimeUnit
from_hour = Hour ∷ from_minute

abbrev from_day : List TimeUnit
from_day = Day ∷ from_hour

abbrev from_week : List TimeUnit
from_week = Week ∷ from_day

-- one number with one of the units in which spans are written
module _ (ds : List ℕ) (all : AllDigits 10 ds) (some : 0 < length ds) where
  parts-last : (unit : TimeUnit) (left : List TimeUnit) → has_part unit (ds ++ unit_name unit) ≡ true → parts_of (unit ∷ left) (ds ++ unit_name unit) ≡ Some (number_after 0 ds * unit_size unit)
  parts-last unit left is = last unit left (ds ++ unit_name unit) _ (amount-with ds all some unit is) (rest-with ds all some unit is)

  pass : (unit other : TimeUnit) (left : List TimeUnit) → bytes_eq (unit_name unit) (unit_name other) ≡ false → parts_of (other ∷ left) (ds ++ unit_name unit) ≡ parts_of left (ds ++ unit_name unit)
  pass unit other left is = skip other left (ds ++ unit_name unit) (has-with ds all some unit other ∙ is)

  parts-hour : parts_of units (ds ++ unit_name Hour) ≡ Some (number_after 0 ds * unit_size Hour)
  parts-hour =
      pass Hour Year from_week refl ∙ pass Hour Week from_day refl ∙ pass Hour Day from_hour refl ∙ parts-last Hour from_minute (has-with ds all some Hour Hour)

  parts-minute : parts_of units (ds ++ unit_name Minute) ≡ Some (number_after 0 ds * unit_size Minute)
  parts-minute =
      pass Minute Year from_week refl ∙ pass Minute Week from_day refl ∙ pass Minute Day from_hour refl ∙ pass Minute Hour from_minute refl
      ∙ parts-last Minute from_second (has-with ds all some Minute Minute)

  parts-second : parts_of units (ds ++ unit_name Second) ≡ Some (number_after 0 ds * unit_size Second)
  parts-second =
      pass Second Year from_week refl ∙ pass Second Week from_day refl ∙ pass Second Day from_hour refl ∙ pass Second Hour from_minute refl
      ∙ pass Second Minute from_second refl ∙ parts-last Second from_millisecond (has-with ds all some Second Second)

  parts-millisecond : parts_of units (ds ++ unit_name Millisecond) ≡ Some (number_after 0 ds * unit_size Millisecond)
  parts-millisecond =
      pass Millisecond Year from_week refl ∙ pass Millisecond Week from_day refl ∙ pass Millisecond Day from_hour refl ∙ pass Millisecond Hour from_minute refl
      ∙ pass Millisecond Minute from_second refl ∙ pass Millisecond Second from_millisecond refl ∙ parts-last Millisecond [] (has-with ds all some Millisecond Millisecond)

-- a text of more than one byte isn't `0`
longer : (b : ℕ) (text : List ℕ) → 0 < length text → bytes_eq (b ∷ text) (codes "0") ≡ false
longer b text some =
    elim (bytes_eq (b ∷ text) (codes "0")) as (λ t. bytes_eq (b ∷ text) (codes "0") ≡ t → t ≡ false) [
      | true ↦ λ is. let e = ap length ((bytes_decides (b ∷ text) (codes "0")).0 is) in absurd (omega (arith, e))
      | false ↦ λ is. refl
    ] refl

span_of-longer : (text : List ℕ) → 1 < length text → span_of text ≡ parts_of units text
span_of-longer [] long = absurd (omega arith)
span_of-longer (b ∷ text) long = ap (λ t. cond t (Some 0) (parts_of units (b ∷ text))) (longer b text (omega (arith, long)))

-- a number of some unit
counted : (unit : TimeUnit) (k : ℕ) → k < 2 ^ 64
    → ((ds : List ℕ) → AllDigits 10 ds → 0 < length ds → parts_of units (ds ++ unit_name unit) ≡ Some (number_after 0 ds * unit_size unit))
    → 0 < length (unit_name unit) → span_of (decimal k ++ unit_name unit) ≡ Some (k * unit_size unit)
counted unit k small parts some =
    let numeral = decimal_is_IsNumeral k small in
    let is : number_after 0 (decimal k) ≡ k = digits_value-decimal own k small in
    let long : 1 < length (decimal k ++ unit_name unit) = omega (arith, length-append (decimal k) (unit_name unit), numeral.0.0, some) in
    span_of-longer _ long ∙ parts (decimal k) numeral.0.1 numeral.0.0 ∙ ap (λ n. Some (n * unit_size unit)) is

divided : (ms size : ℕ) → ms % size == 0 ≡ true → ms / size * size ≡ ms
divided ms size is = grind (arith, nat_tests, mod-add-div' ms size)

quotient-small : (ms size : ℕ) → ms ≤ longest → ms / size < 2 ^ 64
quotient-small ms size small = omega (arith, small, div-le_self ms size)

-- how milliseconds are written with a unit
abbrev text_by : TimeUnit → ℕ → List ℕ
text_by unit ms = decimal (ms / unit_size unit) ++ unit_name unit

dividing : (unit : TimeUnit) (ms : ℕ) → ms ≤ longest → ms / unit_size unit * unit_size unit ≡ ms
    → ((ds : List ℕ) → AllDigits 10 ds → 0 < length ds → parts_of units (ds ++ unit_name unit) ≡ Some (number_after 0 ds * unit_size unit))
    → 0 < length (unit_name unit) → span_of (text_by unit ms) ≡ Some ms
dividing unit ms small whole parts some = counted unit (ms / unit_size unit) (quotient-small ms (unit_size unit) small) parts some ∙ ap (λ n. Some n) whole

by_second : (ms : ℕ) → ms ≤ longest → span_of (text_by (cond (ms % unit_size Second == 0) Second Millisecond) ms) ≡ Some ms
by_second ms small =
    elim (ms % unit_size Second == 0) as (λ t. (ms % unit_size Second == 0) ≡ t → span_of (text_by (cond t Second Millisecond) ms) ≡ Some ms) [
      | true ↦ λ is. dividing Second ms small (divided ms 1000 is) parts-second (omega arith)
      | false ↦ λ is. dividing Millisecond ms small (omega arith) parts-millisecond (omega arith)
    ] refl

by_minute : (ms : ℕ) → ms ≤ longest → span_of (text_by (cond (ms % unit_size Minute == 0) Minute (cond (ms % unit_size Second == 0) Second Millisecond)) ms) ≡ Some ms
by_minute ms small =
    elim (ms % unit_size Minute == 0) as (λ t. (ms % unit_size Minute == 0) ≡ t → span_of (text_by (cond t Minute (cond (ms % unit_size Second == 0) Second Millisecond)) ms) ≡ Some ms) [
      | true ↦ λ is. dividing Minute ms small (divided ms 60000 is) parts-minute (omega arith)
      | false ↦ λ is. by_second ms small
    ] refl

by_hour : (ms : ℕ) → ms ≤ longest → span_of (text_by (unit_dividing ms) ms) ≡ Some ms
by_hour ms small =
    elim (ms % unit_size Hour == 0) as (λ t. (ms % unit_size Hour == 0) ≡ t
    → span_of (text_by (cond t Hour (cond (ms % unit_size Minute == 0) Minute (cond (ms % unit_size Second == 0) Second Millisecond))) ms) ≡ Some ms) [
      | true ↦ λ is. dividing Hour ms small (divided ms 3600000 is) parts-hour (omega arith)
      | false ↦ λ is. by_minute ms small
    ] refl

span_of-written : (ms : ℕ) → ms ≤ longest → span_of (span_written ms) ≡ Some ms
span_of-written ms small =
    elim (ms == 0) as (λ t. (ms == 0) ≡ t → span_of (cond t (codes "0s") (text_by (unit_dividing ms) ms)) ≡ Some ms) [
      | true ↦ λ is. ap (λ n. Some n) (nothing ms is)
      | false ↦ λ is. by_hour ms small
    ] refl
  where
    nothing : (ms : ℕ) → (ms == 0) ≡ true → 0 ≡ ms
    nothing ms is = grind (arith, nat_tests, is)

pub span_read-written : (ms : ℕ) → ms ≤ longest → span_read (span_written ms) ≡ Ok (record { 0 = pos ms })
span_read-written ms small =
    ap span_within (span_of-written ms small) ∙ ap (λ t. cond t (Err Long) (Ok (record { 0 = pos ms }))) (within ms small)
  where
    within : (ms : ℕ) → ms ≤ longest → nat_lt longest ms ≡ false
    within ms small = grind (arith, nat_tests, small)

-- a span of 0 or more is its milliseconds
pub of_size : (span : Span) → pos 0 ≤ℤ span.0 → record { 0 = pos (nat_abs span.0) } ≡ span
of_size span some = ap (λ z. record { 0 = z }) (size span.0 some)
  where
    size : (z : ℤ) → pos 0 ≤ℤ z → pos (nat_abs z) ≡ z
    size (pos n) some = refl
    size (negsuc n) some = absurd (omega (arith, ints, some))

pub read_again : {E : Type 0} (r : Result (List ℕ) E) (span : Span) → pos 0 ≤ℤ span.0 → IfOk r (λ text. text ≡ span_written (nat_abs span.0))
    → IfOk r (λ text. nat_abs span.0 ≤ longest → span_read text ≡ Ok span)
read_again (Ok text) span some is = λ small. ap span_read is ∙ span_read-written (nat_abs span.0) small ∙ ap (λ s. Ok s) (of_size span some)
read_again (Err e) span some is = tt
