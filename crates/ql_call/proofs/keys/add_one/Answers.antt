use Rattle.std.proofs.Common.{◌∙◌}
use Rattle.std.proofs.lemmas.Result.{on_ok_weaker}
use Rattle.op_base.specs.Maps.{with_member}
use Rattle.op_base.specs.Labels.{labels_cmp}
use Rattle.ql_call.proofs.keys.add_one.Goals as goal

pub returns : goal.returns
returns c =
    on_ok_weaker c.add.result
    (λ is. is ∙ (λ i. with_member labels_cmp c.args.by_key.now (c.in_ok-key.ensures i) (c.in_ok-copy_of.ensures i)))
    c.add.ensures.ok
