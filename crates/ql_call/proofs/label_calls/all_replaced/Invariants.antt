-- The elements so far, with what is left, are all.
use Rattle.std.proofs.Common.{◌≡◌, ◌++◌, map, drop}
use Rattle.ql_call.specs.LabelCalls as spec
use Rattle.ql_call.proofs.label_calls.all_replaced.Given as goal

abbrev pub invariant-loop-element : goal.invariant-loop-element
invariant-loop-element l =
    map (spec.replaced l.target l.replacement l.source l.pattern) l.elements
    ≡ l.changed ++ map (spec.replaced l.target l.replacement l.source l.pattern) (drop l.element-index l.elements)
