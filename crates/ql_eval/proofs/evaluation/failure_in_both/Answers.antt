use Rattle.std.proofs.Common.{◌≡◌, ◌++◌, ◌∙◌, sym}
use Rattle.ql_call.specs.Operands.{failure_in}
use Rattle.std.proofs.lemmas.Result.{IfOk-weaker}
use Rattle.ql_eval.proofs.FailureLemmas.{failed-first, failed-second}
use Rattle.ql_eval.proofs.evaluation.failure_in_both.Goals as goal

pub returns-in-Some : goal.returns-in-Some
returns-in-Some c = failed-first c.args.first.now c.args.second.now c.in-Some.failure (sym c.in-Some.is ∙ c.in_ok-failure.ensures)

pub returns-in-None : goal.returns-in-None
returns-in-None c =
    IfOk-weaker c.failure_in-in-None.result _ (λ failure. failure ≡ failure_in (c.args.first.now ++ c.args.second.now)) (λ failure is. failed-second c.args.first.now c.args.second.now failure (sym c.in-None.is ∙ c.in_ok-failure.ensures) is)
    c.failure_in-in-None.ensures
