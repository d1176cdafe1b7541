use Rattle.std.proofs.Common.{◌≡◌, ◌++◌, drop, map}
use Rattle.ql_call.specs.Operators as spec
use Rattle.ql_call.proofs.operators.negated_all.Given as goal

abbrev pub invariant-loop-element : goal.invariant-loop-element
invariant-loop-element l = map spec.negated l.elements ≡ l.changed ++ map spec.negated (drop l.element-index l.elements)
