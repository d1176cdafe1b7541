use Rattle.std.proofs.Common.{◌≡◌, ◌++◌}
use Rattle.srv_store.specs.LabelMaps.{labels_in}
use Rattle.srv_scrape.proofs.tick.label_sets.Given as goal

abbrev pub invariant-loop-labels : goal.invariant-loop-labels
invariant-loop-labels l =
    goal.iterator-loop-labels.can_next l.labels-iterator ×
    goal.iterator-loop-labels.is_finite l.labels-iterator ×
    (labels_in l.initial.labels-iterator.rest.items ≡ l.sets ++ labels_in l.labels-iterator.rest.items)
