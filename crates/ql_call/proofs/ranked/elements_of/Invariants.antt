-- The elements so far, with those of what is left, are those of all.
use Rattle.std.proofs.Common.{◌≡◌, ◌++◌, map}
use Rattle.ql_call.specs.Ranked as spec
use Rattle.ql_call.proofs.ranked.elements_of.Given as goal

abbrev pub invariant-loop-weight : goal.invariant-loop-weight
invariant-loop-weight l =
    goal.iterator-loop-weight.can_next l._weight-iterator ×
    goal.iterator-loop-weight.is_finite l._weight-iterator ×
    (map spec.ranked_element l.initial._weight-iterator.rest.items
    ≡ l.elements ++ map spec.ranked_element l._weight-iterator.rest.items)
