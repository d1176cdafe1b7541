use Rattle.ql_eval.specs.Values.{whole}
use Rattle.ql_eval.proofs.OrderedLemmas.{result-ordered}
use Rattle.ql_eval.proofs.evaluation.eval.Goals as goal

pub returns-clause-ordered : goal.returns-clause-ordered
returns-clause-ordered c =
    result-ordered (whole c.args.store.now c.args.t) c.args.expr.now c.in_ok-operand.operand c.outcome_of.result c.in_ok-operand.ensures c.outcome_of.ensures
