use Rattle.std.proofs.Common.{◌∙◌, ap}
use Rattle.op_base.specs.Maps.{members_at}
use Rattle.op_base.specs.Labels.{labels_cmp}
use Rattle.ql_call.specs.Matched.{sole}
use Rattle.ql_call.proofs.keys.partner_of.Goals as goal

pub returns : goal.returns
returns c = c.sole_at.ensures ∙ ap (λ key. sole (members_at labels_cmp c.args.by_key.now key)) c.in_ok-key.ensures
