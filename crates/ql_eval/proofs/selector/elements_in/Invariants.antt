use Rattle.std.proofs.Common.{◌≡◌, ◌++◌}
use Rattle.ql_eval.specs.Selected as spec
use Rattle.ql_eval.proofs.selector.elements_in.Given as goal

abbrev pub invariant-loop-entry : goal.invariant-loop-entry
invariant-loop-entry l =
    goal.iterator-loop-entry.can_next l.entry-iterator ×
    goal.iterator-loop-entry.is_finite l.entry-iterator ×
    (spec.elements_in l.initial.entry-iterator.rest.items ≡ l.elements ++ spec.elements_in l.entry-iterator.rest.items)
