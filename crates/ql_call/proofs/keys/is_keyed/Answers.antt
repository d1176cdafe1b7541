use Rattle.std.proofs.Common.{◌∙◌, ap}
use Rattle.srv_store.specs.LabelMaps.{has_labels}
use Rattle.ql_call.proofs.keys.is_keyed.Goals as goal

pub returns : goal.returns
returns c = c.has_labels.ensures ∙ ap (has_labels c.args.by_key.now) c.in_ok-key.ensures
