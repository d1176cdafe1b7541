use Rattle.std.proofs.Common.{◌≡◌, ◌++◌, map, drop}
use Rattle.ql_call.specs.CallSteps as steps
use Rattle.ql_call.proofs.label_calls.all_unchanged.Given as goal

abbrev pub invariant-loop-element : goal.invariant-loop-element
invariant-loop-element l = map steps.unchanged l.elements ≡ l.changed ++ map steps.unchanged (drop l.element-index l.elements)
