use Rattle.std.proofs.Common.{None, ap, ◌∙◌}
use Rattle.ql_call.specs.Operators.{signed_vector}
use Rattle.ql_call.specs.Ordered.{in_label_order}
use Rattle.ql_call.proofs.OrderedLemmas.{if-ordered, nodes-keep-order}
use Rattle.ql_call.proofs.operators.signed.Goals as goal

pub returns-in-None-clause-ordered : goal.returns-in-None-clause-ordered
returns-in-None-clause-ordered c = λ ordered.
    if-ordered c.signed_vector.result (signed_vector c.args.minus c.elements_at.result.now)
    (nodes-keep-order.signs c.args.minus None c.elements_at.result.now (ap in_label_order c.elements_at.ensures ∙ ordered)) c.signed_vector.ensures
