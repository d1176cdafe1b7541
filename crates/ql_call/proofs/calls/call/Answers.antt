use Rattle.ql_call.specs.Calls.{call}
use Rattle.ql_call.proofs.OrderedLemmas.{if-ordered, ordered-call}
use Rattle.ql_call.proofs.calls.call.Goals as goal

pub returns-in-Some-clause-ordered : goal.returns-in-Some-clause-ordered
returns-in-Some-clause-ordered c =
    if-ordered c.called.result (call c.in-Some.function c.args.t.now c.args.args.now)
    (ordered-call c.in-Some.function c.args.t.now c.args.args.now) c.called.ensures
