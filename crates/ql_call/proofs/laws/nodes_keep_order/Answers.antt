use Rattle.ql_call.proofs.OrderedLemmas.{nodes-keep-order}
use Rattle.ql_call.proofs.laws.nodes_keep_order.Goals as goal

pub returns : goal.returns
returns c = nodes-keep-order
