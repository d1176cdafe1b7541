use Rattle.srv_rule.proofs.StaleLemmas.{gone_step}
use Rattle.srv_rule.proofs.states.RuleStates.gone_entries.Goals as goal

pub loop-id-preserved : goal.loop-id-preserved
loop-id-preserved c = (_, _, gone_step _ _ _ _ _ _ _ _ c.loop-id.invariant.2 c.in-Some.ensures.steps c.in_ok-push_gone.ensures)
