-- The shares so far, with what is left shared out, are those of all entries.
use Rattle.std.proofs.Common.{◌≡◌}
use Rattle.op_base.specs.Maps.{text_cmp, with_members}
use Rattle.srv_run.specs.Sharing as spec
use Rattle.srv_run.proofs.shares.by_home.Given as goal

abbrev pub invariant-loop-entry : goal.invariant-loop-entry
invariant-loop-entry l =
    goal.iterator-loop-entry.can_next l.entry-iterator ×
    goal.iterator-loop-entry.is_finite l.entry-iterator ×
    (with_members text_cmp spec.home_of l.initial.shares l.initial.entry-iterator.rest.items
    ≡ with_members text_cmp spec.home_of l.shares l.entry-iterator.rest.items)
