-- Spans of time as texts: the durations of Prometheus, numbers with units from the largest to the
-- smallest, or `0`.
use Rattle.std.specs.Prelude.{ℕ, ◌+◌, ◌-◌, ◌*◌, ◌/◌, ◌%◌, ◌^◌, pos, Bool, List, [], ◌∷◌, ◌++◌, ◌==◌, ◌&&◌, nat_lt, min, take, drop, length, codes, decimal, Option, Some, None, Result, Ok, Err, option_map, if◌then◌else◌, bytes_eq}
use Rattle.std.specs.List.{prefix_len}
use Rattle.op_base.specs.declared.span.Span.{Span}
use Rattle.op_base.specs.declared.span.TheConstants.{LONGEST}
use Rattle.op_base.specs.declared.span.SpanFault.{SpanFault}
use Rattle.op_base.specs.declared.span.SpanFault.TheVariants.{Shape, Long}
use Rattle.op_base.specs.declared.span.TimeUnit.{TimeUnit}
use Rattle.op_base.specs.declared.span.TimeUnit.TheVariants.{Year, Week, Day, Hour, Minute, Second, Millisecond}
use Rattle.op_base.specs.Names.{is_lower, is_digit}

-- a unit's name
abbrev pub unit_name : TimeUnit → List ℕ
unit_name Year = codes "y"
unit_name Week = codes "w"
unit_name Day = codes "d"
unit_name Hour = codes "h"
unit_name Minute = codes "m"
unit_name Second = codes "s"
unit_name Millisecond = codes "ms"

-- how many milliseconds it has: a day has 24 hours, a week 7 days, a year 365 days
abbrev pub unit_size : TimeUnit → ℕ
unit_size Year = 31536000000
unit_size Week = 604800000
unit_size Day = 86400000
unit_size Hour = 3600000
unit_size Minute = 60000
unit_size Second = 1000
unit_size Millisecond = 1

-- the order in which units stand in a text, each at most once
abbrev pub units : List TimeUnit
units = Year ∷ Week ∷ Day ∷ Hour ∷ Minute ∷ Second ∷ Millisecond ∷ []

-- the longest span: 100 years
abbrev pub longest : ℕ
longest = LONGEST

-- the number that digits write behind those of n
abbrev pub number_after : ℕ → List ℕ → ℕ
number_after n [] = n
number_after n (b ∷ digits) = number_after (n * 10 + (b - 48)) digits

-- how many digits stand in front of the text
abbrev pub digits_in : List ℕ → ℕ
digits_in text = prefix_len is_digit text

-- the letters that stand behind them
abbrev pub unit_in : List ℕ → List ℕ
unit_in text = let rest = drop (digits_in text) text in take (prefix_len is_lower rest) rest

-- the text begins with a number and the unit
abbrev pub has_part : TimeUnit → List ℕ → Bool
has_part unit text = nat_lt 0 (digits_in text) && bytes_eq (unit_in text) (unit_name unit)

-- the milliseconds of that part, 0 where the text doesn't begin so
abbrev pub amount_of : TimeUnit → List ℕ → ℕ
amount_of unit text = if has_part unit text then number_after 0 (take (digits_in text) text) * unit_size unit else 0

-- the text behind that part
abbrev pub rest_of : TimeUnit → List ℕ → List ℕ
rest_of unit text = if has_part unit text then drop (digits_in text + length (unit_name unit)) text else text

-- the milliseconds of a text that has nothing but parts with these units, in this order
abbrev pub parts_of : List TimeUnit → List ℕ → Option ℕ
parts_of [] [] = Some 0
parts_of [] (b ∷ text) = None
parts_of (unit ∷ smaller) text = option_map (λ ms. amount_of unit text + ms) (parts_of smaller (rest_of unit text))

-- the milliseconds that a text writes, where its form is right
abbrev pub span_of : List ℕ → Option ℕ
span_of [] = None
span_of (b ∷ text) = if bytes_eq (b ∷ text) (codes "0") then Some 0 else parts_of units (b ∷ text)

-- the span that milliseconds are, if they aren't too many
abbrev pub span_within : Option ℕ → Result Span SpanFault
span_within None = Err Shape
span_within (Some ms) = if nat_lt longest ms then Err Long else Ok (record { 0 = pos ms })

-- the span that a text writes
abbrev pub span_read : List ℕ → Result Span SpanFault
span_read text = span_within (span_of text)

-- the largest of hour, minute, second and millisecond that divides
abbrev pub unit_dividing : ℕ → TimeUnit
unit_dividing ms =
    if ms % unit_size Hour == 0 then Hour
    else (if ms % unit_size Minute == 0 then Minute else (if ms % unit_size Second == 0 then Second else Millisecond))

-- how a span of so many milliseconds is written: one number with that unit
abbrev pub span_written : ℕ → List ℕ
span_written ms =
    let unit = unit_dividing ms in
    if ms == 0 then codes "0s" else decimal (ms / unit_size unit) ++ unit_name unit

-- what 64 bits hold of a number
abbrev pub capped : ℕ → ℕ
capped n = min n (2 ^ 64 - 1)
