-- The elements so far, with those of what is left, are those of all.
use Rattle.std.proofs.Common.{◌≡◌, ◌++◌, drop, map}
use Rattle.ql_call.specs.Aggregates as spec
use Rattle.ql_call.proofs.aggregates.with_decimals.Given as goal

abbrev pub invariant-loop-element : goal.invariant-loop-element
invariant-loop-element l =
    map (spec.with_decimal l.label) l.elements
    ≡ l.labelled ++ map (spec.with_decimal l.label) (drop l.element-index l.elements)
