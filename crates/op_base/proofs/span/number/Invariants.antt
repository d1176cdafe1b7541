-- The digits that are left give the number of all.
use Rattle.std.proofs.Common.{◌≡◌, ◌<◌, ◌^◌, drop}
use Rattle.op_base.specs.Spans.{capped, number_after}
use Rattle.op_base.proofs.span.number.Given as goal

abbrev pub invariant-loop-digit : goal.invariant-loop-digit
invariant-loop-digit l = (capped (number_after l.number (drop l.digit-index l.digits)) ≡ capped (number_after 0 l.digits)) × (l.number < 2 ^ 64)
