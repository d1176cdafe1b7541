use Rattle.ql_call.proofs.JoinLemmas.{joined-first}
use Rattle.ql_call.proofs.label_calls.joined.Goals as goal

pub returns-in_ok-push_each-in-len1-up : goal.returns-in_ok-push_each-in-len1-up
returns-in_ok-push_each-in-len1-up c =
    joined-first c.args.separator.now c.args.labels.now c.args.sources.now c.first-item.result c.text_of.result.now c.value.result.now
    c.in_ok-text-in-len1-up.text c.push_each.new.text c.in-len1-up.len_at_least c.first-item.is c.text_of.ensures c.value.ensures
    c.in_ok-text-in-len1-up.ensures c.in_ok-push_each-in-len1-up.ensures
