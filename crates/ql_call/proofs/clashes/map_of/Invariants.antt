-- The vector so far, with the elements that are left, is that of all.
use Rattle.std.proofs.Common.{◌≡◌, fold}
use Rattle.srv_store.specs.LabelMaps.{with_value}
use Rattle.ql_call.specs.Clashes as spec
use Rattle.ql_call.specs.declared.changed.Changed.{Changed}
use Rattle.ql_call.proofs.clashes.map_of.Given as goal

abbrev pub invariant-loop-element : goal.invariant-loop-element
invariant-loop-element l =
    goal.iterator-loop-element.can_next l.element-iterator ×
    goal.iterator-loop-element.is_finite l.element-iterator ×
    (spec.placed l.initial.element-iterator.rest.items
    ≡ fold (λ vector (c : Changed). with_value vector c.to c.value) l.vector l.element-iterator.rest.items)
