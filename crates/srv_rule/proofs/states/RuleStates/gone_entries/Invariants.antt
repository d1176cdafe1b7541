-- The entries so far, with those of what is left, are all.
use Rattle.std.proofs.Common.{◌≡◌, ◌++◌}
use Rattle.srv_rule.specs.Rounds as spec
use Rattle.srv_rule.proofs.states.RuleStates.gone_entries.Given as goal

abbrev pub invariant-loop-id : goal.invariant-loop-id
invariant-loop-id l =
    goal.iterator-loop-id.can_next l.id-iterator ×
    goal.iterator-loop-id.is_finite l.id-iterator ×
    (spec.gone_entries l.t (spec.gone l.initial.id-iterator l.next) ≡ l.entries ++ spec.gone_entries l.t (spec.gone l.id-iterator l.next))
