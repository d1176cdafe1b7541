-- Nothing was stored yet.
use Rattle.std.proofs.Common.{◌∙◌, ◌++◌, ap, sym}
use Rattle.std.proofs.lemmas.Result.{on_ok_weaker}
use Rattle.srv_rule.specs.Running.{placed_as}
use Rattle.srv_rule.specs.Rounds.{ran_of}
use Rattle.srv_rule.proofs.RunLemmas.{nothing_stored, on_err_anyway}
use Rattle.srv_rule.proofs.rounds.run_rule.Goals as goal

pub returns-in_err-results_of-clause-err : goal.returns-in_err-results_of-clause-err
returns-in_err-results_of-clause-err c = on_err_anyway c.from_residual.result
    (nothing_stored c.args.t c.args.before.now (ran_of c.args.store.now c.args.progress.now.states c.args.progress.now.failed) (placed_as c.args.place.now))

pub returns-in-None-clause-added : goal.returns-in-None-clause-added
returns-in-None-clause-added c = λ base behind. on_ok_weaker c.fail.result (λ same. behind ∙ ap (λ l. base ++ l) (sym same)) c.fail.ensures.added
