-- The label sets so far, with those of what is left, are all.
use Rattle.std.proofs.Common.{◌≡◌, ◌++◌}
use Rattle.srv_store.specs.LabelMaps.{labels_in}
use Rattle.srv_rule.proofs.rounds.labels_of.Given as goal

abbrev pub invariant-loop-labels : goal.invariant-loop-labels
invariant-loop-labels l =
    goal.iterator-loop-labels.can_next l.labels-iterator ×
    goal.iterator-loop-labels.is_finite l.labels-iterator ×
    (labels_in l.initial.labels-iterator.rest.items ≡ l.all ++ labels_in l.labels-iterator.rest.items)
