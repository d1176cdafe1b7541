-- What was made so far, with what the rest gives, is all.
use Rattle.std.proofs.Common.{◌≡◌, ◌++◌}
use Rattle.std.specs.List.{flat_map}
use Rattle.srv_store.specs.Runs as spec
use Rattle.srv_store.proofs.lookups.selected_entries.Given as goal

abbrev pub invariant-loop-labels : goal.invariant-loop-labels
invariant-loop-labels l =
    goal.iterator-loop-labels.can_next l.labels-iterator ×
    goal.iterator-loop-labels.is_finite l.labels-iterator ×
    (flat_map (spec.selected_of l.runs l.from l.to) l.initial.labels-iterator.rest.items
    ≡ l.entries ++ flat_map (spec.selected_of l.runs l.from l.to) l.labels-iterator.rest.items)
