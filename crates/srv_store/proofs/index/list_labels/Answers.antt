use Rattle.std.proofs.Common.{◌∙◌}
use Rattle.std.proofs.lemmas.Result.{on_ok_weaker}
use Rattle.srv_store.proofs.IndexLemmas.{labels_listed}
use Rattle.srv_store.proofs.index.list_labels.Goals as goal

pub returns-clause-ok : goal.returns-clause-ok
returns-clause-ok c = on_ok_weaker c.list_each.result
    (labels_listed c.args.index.now c.list_each.new.index c.as_slice.result.now c.args.labels.now c.args.number c.len-rising.ensures.labels (c.as_slice.ensures ∙ c.in_ok-singles.ensures))
    c.list_each.ensures.ok
