-- The functions of a range: what each gives of one label set's samples in the order of their moments.
use Rattle.std.specs.Prelude.{ℕ, ◌+◌, ℤ, pos, List, [], ◌∷◌, Bool, Option, Some, None, ◌+ℤ◌, ◌-ℤ◌, ◌*ℤ◌, length, map, not, int_div, int_lt, if◌then◌else◌}
use Rattle.std.specs.Ordering.{int_eq}
use Rattle.op_base.specs.declared.span.Span.{Span}
use Rattle.srv_store.specs.Stores.{Point}
use Rattle.ql_tree.specs.Arithmetic.{clamped}
use Rattle.ql_call.specs.Aggregates.{least, greatest, average}
use Rattle.ql_call.specs.Elements.{total}
use Rattle.ql_call.specs.declared.function.RangeFunction.{RangeFunction}
use Rattle.ql_call.specs.declared.function.RangeFunction.TheVariants.{Avg, Sum, Min, Max, Count, Last, Present, Changes, Resets, Increase, Rate}
use Rattle.ql_call.specs.declared.over_time.TheConstants.{SECOND}

-- the values of samples
abbrev pub point_values : List Point → List ℤ
point_values samples = map (λ (point : Point). point.1) samples

-- the last of numbers, of which there is one
abbrev pub newest_of : List ℤ → ℤ
newest_of [] = pos 0
newest_of (n ∷ []) = n
newest_of (n ∷ m ∷ numbers) = newest_of (m ∷ numbers)

-- 1 where the test holds, else 0
abbrev pub one_if : Bool → ℕ
one_if holds = if holds then 1 else 0

-- how many neighbours differ, and how many fall
abbrev pub changes_in : List ℤ → ℕ
changes_in [] = 0
changes_in (n ∷ []) = 0
changes_in (n ∷ m ∷ numbers) = one_if (not (int_eq n m)) + changes_in (m ∷ numbers)

-- how often a number is below the one before it
abbrev pub resets_in : List ℤ → ℕ
resets_in [] = 0
resets_in (n ∷ []) = 0
resets_in (n ∷ m ∷ numbers) = one_if (int_lt m n) + resets_in (m ∷ numbers)

-- what a counter rose by: from an earlier value to a later one, which after a reset counts alone
abbrev pub rise : ℤ → ℤ → ℤ
rise earlier later = if int_lt later earlier then later else later -ℤ earlier

-- the sum of the rises from each number to the next
abbrev pub increase_in : List ℤ → ℤ
increase_in [] = pos 0
increase_in (n ∷ []) = pos 0
increase_in (n ∷ m ∷ numbers) = rise n m +ℤ increase_in (m ∷ numbers)

-- a second, in milliseconds
abbrev pub second : ℤ
second = SECOND

-- the exact increase times 1000 over the range in milliseconds, cut towards zero
abbrev pub rate_in : Span → List ℤ → ℤ
rate_in range numbers = int_div (increase_in numbers *ℤ second) range.0

-- `increase` and `rate` need two samples
abbrev pub of_two : List ℤ → ℤ → Option ℤ
of_two [] given = None
of_two (n ∷ []) given = None
of_two (n ∷ m ∷ numbers) given = Some (clamped given)

-- a range that isn't above 0 has no rate; no expression has such a range
abbrev pub rate_of : Span → List ℤ → Option ℤ
rate_of range numbers = if int_lt (pos 0) range.0 then of_two numbers (rate_in range numbers) else None

-- what a function over a range makes of the numbers of its samples, of which there is at least one
abbrev pub number_over : RangeFunction → Span → List ℤ → Option ℤ
number_over Avg range numbers = Some (clamped (average numbers))
number_over Sum range numbers = Some (clamped (total numbers))
number_over Min range numbers = Some (least numbers)
number_over Max range numbers = Some (greatest numbers)
number_over Count range numbers = Some (clamped (pos (length numbers)))
number_over Last range numbers = Some (newest_of numbers)
number_over Present range numbers = Some (pos 1)
number_over Changes range numbers = Some (clamped (pos (changes_in numbers)))
number_over Resets range numbers = Some (clamped (pos (resets_in numbers)))
number_over Increase range numbers = of_two numbers (increase_in numbers)
number_over Rate range numbers = rate_of range numbers

-- nothing where there is no sample
abbrev pub over_some : RangeFunction → Span → List ℤ → Option ℤ
over_some function range [] = None
over_some function range (n ∷ numbers) = number_over function range (n ∷ numbers)

-- what a function makes of a range of samples
abbrev pub over : RangeFunction → List Point → Span → Option ℤ
over function samples range = over_some function range (point_values samples)
