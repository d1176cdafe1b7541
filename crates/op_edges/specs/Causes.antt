-- Fault counts: numbers from 0 to the last value of 64 bits, where they stay.
use Rattle.std.specs.Prelude.{ℕ, Bool, true, false, ◌+◌, ◌-◌, ◌^◌, ◌≤◌, min}

-- the next count, or the last value where it was reached
abbrev pub next_count : ℕ → ℕ
next_count count = min (count + 1) (2 ^ 64 - 1)

-- a count rose: it is greater than before, or stands at the last value
abbrev pub Rose : ℕ → ℕ → Type 0
Rose before now = next_count before ≤ now

-- the count after a call that failed or didn't
abbrev pub count_after : Bool → ℕ → ℕ
count_after true count = next_count count
count_after false count = count
