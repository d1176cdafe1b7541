-- The next rule runs, or is cut off.
use Rattle.std.proofs.Common.{[], ◌∷◌, ◌+◌, ap}
use Rattle.srv_rule.specs.Rounds.{placed_at}
use Rattle.srv_rule.proofs.RunLemmas.{runs-step, runs-cut, rules-left, on_err_anyway}
use Rattle.srv_rule.proofs.rounds.run_group.Goals as goal

pub returns-in_err-run_rule-clause-err : goal.returns-in_err-run_rule-clause-err
returns-in_err-run_rule-clause-err c = on_err_anyway c.from_residual.result
    (runs-cut c.args.t c.args.before.now _ _ _ _ (placed_at c.args.file.now c.args.group.now.name c.loop-rule.index c.rule-item.result ∷ []) _ _ c.loop-rule.invariant.1
    (rules-left c.args.file.now c.args.group.now.name c.args.group.now.rules _ c.loop-rule.index _ _ c.loop-rule.invariant.0 c.as_slice-rule-items.ensures c.loop-rule-test.true c.rule-item.is)
    c.in_err-run_rule.ensures.err)

pub loop-rule-preserved : goal.loop-rule-preserved
loop-rule-preserved c = (
  ap (λ n. n + 1) c.loop-rule.invariant.0,
  runs-step c.args.t c.args.before.now _ _ _ _ _ (placed_at c.args.file.now c.args.group.now.name c.loop-rule.index c.rule-item.result ∷ []) _ c.loop-rule.invariant.1
      (rules-left c.args.file.now c.args.group.now.name c.args.group.now.rules _ c.loop-rule.index _ _ c.loop-rule.invariant.0 c.as_slice-rule-items.ensures c.loop-rule-test.true c.rule-item.is)
      c.in_ok-run_rule.ensures.ok,
  λ base behind. c.in_ok-run_rule.ensures.added base (c.loop-rule.invariant.2 base behind),
)
