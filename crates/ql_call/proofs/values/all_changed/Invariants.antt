-- The elements so far, with what is left, are all.
use Rattle.std.proofs.Common.{◌≡◌, ◌++◌, map, drop}
use Rattle.ql_call.specs.Calls as spec
use Rattle.ql_call.specs.CallSteps as steps
use Rattle.ql_call.proofs.values.all_changed.Given as goal

abbrev pub invariant-loop-element : goal.invariant-loop-element
invariant-loop-element l =
    map (spec.unnamed (steps.change_of l.change)) l.elements
    ≡ l.changed ++ map (spec.unnamed (steps.change_of l.change)) (drop l.element-index l.elements)
