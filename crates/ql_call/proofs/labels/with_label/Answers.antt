use Rattle.std.proofs.Common.{ap, ◌∙◌}
use Rattle.op_base.specs.Labels.{labels_with}
use Rattle.ql_call.proofs.labels.with_label.Goals as goal

pub returns : goal.returns
returns c = c.in_ok-set.ensures.ok ∙ ap (λ labels. labels_with labels c.args.name.now c.args.value.now) c.in_ok-to.ensures
