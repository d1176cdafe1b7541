use Rattle.std.proofs.Common.{sym, subst}
use Rattle.op_thin.specs.Objects.{AreJudged}
use Rattle.op_thin.proofs.JudgedObjects.{judged_with}
use Rattle.op_thin.proofs.objects.Objects.put_rule.Goals as goal

pub invariant_of-self-2 : goal.invariant_of-self-2
invariant_of-self-2 c = subst AreJudged (sym c.in_ok-insert_in.ensures.ok) (judged_with _ _ _ _ c.requires c.self.invariant)
