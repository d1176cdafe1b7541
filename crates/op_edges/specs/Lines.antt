-- The lines of a source: each ends with a newline or with the source's end.
use Rattle.std.specs.Prelude.{ℕ, ◌≡◌, ◌≢◌, ◌+◌, ◌-◌, ◌<◌, ◌≤◌, ◌==◌, Bool, true, false, List, [], ◌∷◌, map, length, take, Result, Ok, Err, nat_lt, if◌then◌else◌}
use Rattle.op_base.specs.declared.memory.NoMemory.{NoMemory}
use Rattle.op_edges.specs.declared.held.TheConstants.{MOST_BYTES}
use Rattle.op_edges.specs.declared.lines.Line.{Line}
use Rattle.op_edges.specs.declared.lines.Line.TheVariants.{Whole, Long, End, Fault, Limit}
use Rattle.op_edges.specs.declared.step.TheConstants.{MOST_LINE, NEWLINE}

-- the byte that ends a line
abbrev pub newline : ℕ
newline = NEWLINE

-- the most bytes of a line
abbrev pub most_line : ℕ
most_line = MOST_LINE

-- the most bytes of a source
abbrev pub most_bytes : ℕ
most_bytes = MOST_BYTES

-- the byte in front of the first line
abbrev pub onto : ℕ → List (List ℕ) → List (List ℕ)
onto b [] = (b ∷ []) ∷ []
onto b (line ∷ lines) = (b ∷ line) ∷ lines

-- the lines of some bytes, without their newlines; after the last newline there is no line
abbrev pub lines_of : List ℕ → List (List ℕ)
lines_of [] = []
lines_of (b ∷ bytes) = if b == newline then [] ∷ lines_of bytes else onto b (lines_of bytes)

-- what is given for a line of so many bytes
abbrev pub shown_as : ℕ → List ℕ → Line
shown_as size line = if nat_lt most_line size then Long else Whole line

-- what the reader answers of a line: the line, or that it is too long
abbrev pub shown : List ℕ → Line
shown line = shown_as (length line) line

-- what is given for the lines of some bytes
abbrev pub shown_lines : List ℕ → List Line
shown_lines bytes = map shown (lines_of bytes)

-- no newline stands in some bytes
abbrev pub IsClean : List ℕ → Type 0
IsClean [] = Unit {0}
IsClean (b ∷ bytes) = (b ≢ newline) × IsClean bytes

-- a reader of lines: the bytes that came and weren't given in a line, how many came in all, how
-- many lines were given, and whether the reader goes on
pub record Reading : Type 0 where
  pub held : List ℕ
  pub came : ℕ
  pub line : ℕ
  pub going : Bool

-- nothing came yet
abbrev pub new_reading : Reading
new_reading = record { held = []; came = 0; line = 0; going = true }

-- how many of the bytes that came were given in lines
abbrev pub given : Reading → ℕ
given reading = reading.came - length reading.held

-- a line's answer, and not one that ends the reading
abbrev pub is_line : Line → Bool
is_line (Whole bytes) = true
is_line Long = true
is_line End = false
is_line Fault = false
is_line Limit = false

-- the reading goes on after lines alone
abbrev pub goes_on : Result Line NoMemory → Bool
goes_on (Ok line) = is_line line
goes_on (Err refused) = false

-- how many lines an answer is
abbrev pub count_of : Line → ℕ
count_of line = if is_line line then 1 else 0

-- What an answer says, where so many bytes were given in lines before, `before` were to come and
-- `after` are to come now: bytes held by the reader, and then those left of the source.
abbrev pub Says : Line → ℕ → List ℕ → List ℕ → Type 0
-- a line is the first of the lines to come
Says (Whole bytes) gave before after = shown_lines before ≡ Whole bytes ∷ shown_lines after
Says Long gave before after = shown_lines before ≡ Long ∷ shown_lines after
-- the end: nothing was to come
Says End gave before after = (before ≡ []) × (after ≡ [])
Says Fault gave before after = Unit {0}
-- the limit: there are more bytes than that, and no newline among the first of them
Says Limit gave before after = (most_bytes < gave + length before) × IsClean (take (most_bytes - gave) before)

-- what is given stands among the first bytes of the source
abbrev pub IsWithin : Line → Reading → Type 0
IsWithin line reading = line ≢ Limit → line ≢ Fault → given reading ≤ most_bytes

-- a whole line has no newline, and no more bytes than a line may have
abbrev pub IsFine : Line → Type 0
IsFine (Whole bytes) = (length bytes ≤ most_line) × IsClean bytes
IsFine Long = Unit {0}
IsFine End = Unit {0}
IsFine Fault = Unit {0}
IsFine Limit = Unit {0}
