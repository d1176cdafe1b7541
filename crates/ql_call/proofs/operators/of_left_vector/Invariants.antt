-- The results so far, with those of the elements that are left, are those of all.
use Rattle.std.proofs.Common.{◌≡◌, ◌++◌, drop}
use Rattle.std.specs.List.{flat_map}
use Rattle.ql_call.specs.Operators as spec
use Rattle.ql_call.proofs.operators.of_left_vector.Given as goal

abbrev pub invariant-loop-element : goal.invariant-loop-element
invariant-loop-element l =
    flat_map (spec.left_element l.op l.boolean l.number) l.elements
    ≡ l.changed ++ flat_map (spec.left_element l.op l.boolean l.number) (drop l.element-index l.elements)
