-- Input lines: each is a JSON object (RFC 8259) with exactly one key. A field that is null counts as absent. What is
-- wrong with a line is a list in reading order, of which the first stands for the line. Paths are counted from the
-- value of the key.
use Rattle.std.specs.Prelude.{ℕ, List, [], Bool, Option, Some, None, ◌==◌, ◌||◌, codes, is_some}
use Rattle.std.specs.List.{list_all}
use Rattle.std.specs.Option.{option_map_or}
use Rattle.serde_json.specs.Data.{Data}
use Rattle.op_base.specs.Moments.{IsTick}
use Rattle.op_json.specs.Reading.{json_of}
use Rattle.op_manifest.specs.declared.shape.Shape.{Shape}
use Rattle.op_manifest.specs.declared.shape.TheConstants.ShapeRule.{NOT_JSON, UNKNOWN_KIND}
use Rattle.op_manifest.specs.Checks.{table, whole}
use Rattle.op_manifest.specs.Shapes.{first, wrong, unless}
use Rattle.op_input.specs.declared.line.InputLine.{InputLine}
use Rattle.op_input.specs.declared.line.InputLine.TheVariants.{Page, Tick, NotYet, Bad}
use Rattle.op_input.specs.Keys.{only_field}
use Rattle.op_input.specs.Pages.{page_rows, page_of}
use Rattle.op_input.specs.Ticks.{moment_of}

-- space, tab or carriage return
abbrev pub is_blank_byte : ℕ → Bool
is_blank_byte b = b == 32 || b == 9 || b == 13

-- a line of such bytes alone
abbrev pub is_blank : List ℕ → Bool
is_blank bytes = list_all is_blank_byte bytes

-- its one key is `put`, `delete` or `targets`, which aren't read yet
abbrev pub is_not_yet : Data → Bool
is_not_yet d =
    is_some (only_field (codes "put") d)
    || is_some (only_field (codes "delete") d)
    || is_some (only_field (codes "targets") d)

-- the tick of the value of the key `tick`
abbrev pub tick_of : Data → InputLine
tick_of d = Tick (moment_of d)

-- what is wrong with a line without a page: a tick's number; or it has not exactly one key that is known
abbrev pub other_wrongs : Data → List Shape
other_wrongs d = option_map_or (whole []) (only_field (codes "tick") d) (unless (is_not_yet d) UNKNOWN_KIND [])

-- what such a line asks for
abbrev pub other_of : Data → InputLine
other_of d = option_map_or tick_of (only_field (codes "tick") d) NotYet

-- what is wrong with a line's JSON value
abbrev pub value_wrongs : Data → List Shape
value_wrongs d = option_map_or (table page_rows []) (only_field (codes "page") d) (other_wrongs d)

-- what it asks for
abbrev pub value_of : Data → InputLine
value_of d = option_map_or page_of (only_field (codes "page") d) (other_of d)

-- all that is wrong with a line's bytes
abbrev pub line_wrongs : List ℕ → List Shape
line_wrongs bytes = option_map_or value_wrongs (json_of bytes) (wrong NOT_JSON [])

-- what its bytes ask for, where nothing is wrong with them
abbrev pub asked_of : List ℕ → InputLine
asked_of bytes = option_map_or value_of (json_of bytes) NotYet

-- the first breach, where there is one, stands for the line
abbrev pub line_or_breach : InputLine → Option Shape → InputLine
line_or_breach line (Some shape) = Bad shape
line_or_breach line None = line

-- the line of its bytes
unfoldable pub line_of : List ℕ → InputLine
line_of bytes = line_or_breach (asked_of bytes) (first (line_wrongs bytes))

-- a tick's moment is within the limits of moments
abbrev pub IsWithin : InputLine → Type 0
IsWithin (Page url samples) = Unit {0}
IsWithin (Tick moment) = IsTick moment
IsWithin NotYet = Unit {0}
IsWithin (Bad shape) = Unit {0}
