-- The store so far, with what is left, is the store with all; it has grown. What was added so far, with what is
-- added of the rest, is all that is added.
use Rattle.std.proofs.Common.{◌≡◌, ◌++◌}
use Rattle.srv_store.specs.Stores as spec
use Rattle.srv_store.proofs.store.Store.add_all.Given as goal

abbrev pub invariant-loop-entry : goal.invariant-loop-entry
invariant-loop-entry l =
    goal.iterator-loop-entry.can_next l.entry-iterator ×
    goal.iterator-loop-entry.is_finite l.entry-iterator ×
    spec.Grows l.initial.self l.self ×
    (spec.with_all l.initial.self l.initial.entry-iterator.rest.items ≡ spec.with_all l.self l.entry-iterator.rest.items) ×
    (spec.fresh l.initial.self l.initial.entry-iterator.rest.items ≡ l.added.items ++ spec.fresh l.self l.entry-iterator.rest.items)
