use Rattle.std.proofs.Common.{ap, sym, ◌∙◌}
use Rattle.std.proofs.lemmas.Result.{IfOk-weaker}
use Rattle.op_base.specs.Labels.{labels_with}
use Rattle.ql_call.specs.LabelCalls.{replaced_by}
use Rattle.ql_call.proofs.label_calls.replaced.Goals as goal

pub returns-in-Some : goal.returns-in-Some
returns-in-Some c =
    IfOk-weaker c.with_label.result _ _
    (λ to is. is ∙ ap (labels_with c.args.labels.now c.args.target.now) c.as_str.ensures
    ∙ ap (replaced_by c.args.target.now c.args.labels.now) (sym c.in-Some.is))
    c.with_label.ensures

pub returns-in-None : goal.returns-in-None
returns-in-None c =
    IfOk-weaker c.copy.result _ _ (λ to is. is ∙ ap (replaced_by c.args.target.now c.args.labels.now) (sym c.in-None.is)) c.copy.ensures
