use Rattle.op_base.proofs.TemplateLemmas.{reference-read}
use Rattle.op_base.proofs.template.named.Goals as goal

pub returns-in-Some-clause-written : goal.returns-in-Some-clause-written
returns-in-Some-clause-written c = reference-read _ _ c.args.after.now _ _ _ c.in-Some.ensures c.group.ensures
