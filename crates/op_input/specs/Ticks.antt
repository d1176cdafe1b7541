-- The moments of ticks: whole numbers from 0 to 2^53.
use Rattle.std.specs.Prelude.{ℕ, pos, option_and_then, unwrap_or}
use Rattle.serde_json.specs.Data.{Data}
use Rattle.serde_json.specs.Find.{as_number}
use Rattle.op_base.specs.declared.moment.Moment.{Moment}
use Rattle.op_manifest.specs.Checks.{number_within}

-- the number that a value is where it is whole and from 0 to 2^53, or 0
abbrev pub whole_of : Data → ℕ
whole_of d = unwrap_or (option_and_then number_within (as_number d)) 0

-- the moment of that number
abbrev pub moment_of : Data → Moment
moment_of d = record { 0 = pos (whole_of d) }
