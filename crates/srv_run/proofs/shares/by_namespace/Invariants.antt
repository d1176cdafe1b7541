-- The shares so far, with what is left shared out, are those of all rules.
use Rattle.std.proofs.Common.{◌≡◌}
use Rattle.op_base.specs.Maps.{text_cmp, with_members}
use Rattle.srv_run.specs.Sharing as spec
use Rattle.srv_run.proofs.shares.by_namespace.Given as goal

abbrev pub invariant-loop-rule : goal.invariant-loop-rule
invariant-loop-rule l =
    goal.iterator-loop-rule.can_next l.rule-iterator ×
    goal.iterator-loop-rule.is_finite l.rule-iterator ×
    (with_members text_cmp spec.place_of l.initial.shares l.initial.rule-iterator.rest.items
    ≡ with_members text_cmp spec.place_of l.shares l.rule-iterator.rest.items)
