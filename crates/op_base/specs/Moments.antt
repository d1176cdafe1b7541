-- The moments of ticks.
use Rattle.std.specs.Prelude.{pos, ◌≤ℤ◌}
use Rattle.op_base.specs.declared.moment.Moment.{Moment}
use Rattle.op_base.specs.declared.moment.TheConstants.{LAST_MOMENT}

-- a moment that a tick may have: from 0 to the last one
abbrev pub IsTick : Moment → Type 0
IsTick t = (pos 0 ≤ℤ t.0) × (t.0 ≤ℤ pos LAST_MOMENT)
