use Rattle.ql_rewrite.proofs.SpelledAgain.{enforced_again}
use Rattle.ql_rewrite.proofs.enforcing.enforce.Goals as goal

pub returns-in-Some-clause-spelled : goal.returns-in-Some-clause-spelled
returns-in-Some-clause-spelled c = enforced_again c.args.name.now c.args.value.now c.args.expr.now

pub returns-in-Ok-clause-spelled : goal.returns-in-Ok-clause-spelled
returns-in-Ok-clause-spelled c = enforced_again c.args.name.now c.args.value.now c.args.expr.now

pub returns-in-Err-clause-spelled : goal.returns-in-Err-clause-spelled
returns-in-Err-clause-spelled c = enforced_again c.args.name.now c.args.value.now c.args.expr.now
