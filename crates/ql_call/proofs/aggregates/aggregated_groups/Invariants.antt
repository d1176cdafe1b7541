-- The elements so far, with those of what is left, are those of all.
use Rattle.std.proofs.Common.{◌≡◌, ◌++◌, map}
use Rattle.ql_call.specs.Aggregates as spec
use Rattle.ql_call.proofs.aggregates.aggregated_groups.Given as goal

abbrev pub invariant-loop-labels : goal.invariant-loop-labels
invariant-loop-labels l =
    goal.iterator-loop-labels.can_next l.labels-iterator ×
    goal.iterator-loop-labels.is_finite l.labels-iterator ×
    (map (spec.group_element l.op) l.initial.labels-iterator.rest.items
    ≡ l.elements ++ map (spec.group_element l.op) l.labels-iterator.rest.items)
