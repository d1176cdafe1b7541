-- The first failure is among what is left.
use Rattle.std.proofs.Common.{◌≡◌, drop}
use Rattle.ql_call.specs.Operands as spec
use Rattle.ql_call.proofs.operand.failure_in.Given as goal

abbrev pub invariant-loop-operand : goal.invariant-loop-operand
invariant-loop-operand l = spec.failure_in l.operands ≡ spec.failure_in (drop l.operand-index l.operands)
