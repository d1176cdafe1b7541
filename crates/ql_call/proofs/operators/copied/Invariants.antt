use Rattle.std.proofs.Common.{◌≡◌, ◌++◌, drop}
use Rattle.ql_call.proofs.operators.copied.Given as goal

abbrev pub invariant-loop-element : goal.invariant-loop-element
invariant-loop-element l = l.elements ≡ l.copies ++ drop l.element-index l.elements
