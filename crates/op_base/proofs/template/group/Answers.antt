use Rattle.op_base.proofs.TemplateLemmas.{group-in, group-out, group-none}
use Rattle.op_base.proofs.template.group.Goals as goal

pub returns-then-number-count : goal.returns-then-number-count
returns-then-number-count c = group-in c.args.count c.args.name.now c.args.value.now c.in-Ok.number c.in-Ok.ensures.value.0 c.if-number-count.true

pub returns-else-number-count : goal.returns-else-number-count
returns-else-number-count c = group-out c.args.count c.args.name.now c.args.value.now c.in-Ok.number c.in-Ok.ensures.value.0 c.if-number-count.false

pub returns-in-Err : goal.returns-in-Err
returns-in-Err c = group-none c.args.count c.args.name.now c.args.value.now 0 c.in-Err.ensures.value.0
