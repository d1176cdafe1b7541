use Rattle.op_base.proofs.CaptureLemmas.{expanded}
use Rattle.op_base.proofs.pattern.Pattern.expand.Goals as goal

pub returns : goal.returns
returns c =
    expanded c.form_expands.result _ c.args.self.now c.args.value.now c.args.template.now _ c.form_expands.ensures c.self.invariant c.self.view_is
