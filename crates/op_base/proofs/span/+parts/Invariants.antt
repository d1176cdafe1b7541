use Rattle.std.proofs.Common.{length}
use Rattle.op_base.proofs.span.+parts.Given as goal

abbrev pub decreases-parts : goal.decreases-parts
decreases-parts l = length l.units.now
