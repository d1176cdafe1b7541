-- The next group runs, or is cut off.
use Rattle.srv_rule.specs.Rounds.{placed_from}
use Rattle.srv_rule.proofs.RunLemmas.{runs-step, runs-cut, groups-left, on_err_anyway}
use Rattle.srv_rule.proofs.rounds.run_file.Goals as goal

pub returns-in_err-run_group-clause-err : goal.returns-in_err-run_group-clause-err
returns-in_err-run_group-clause-err c = on_err_anyway c.from_residual.result
    (runs-cut c.args.t c.args.before.now _ _ _ _ (placed_from c.args.file.now c.group-item.result.name 0 c.group-item.result.rules) _ _ c.loop-group.invariant.0
    (groups-left c.args.file.now c.args.file.now.groups _ _ _ c.as_slice-group-items.ensures c.loop-group-test.true c.group-item.is)
    c.in_err-run_group.ensures.err)

pub loop-group-preserved : goal.loop-group-preserved
loop-group-preserved c = (
  runs-step c.args.t c.args.before.now _ _ _ _ _ (placed_from c.args.file.now c.group-item.result.name 0 c.group-item.result.rules) _ c.loop-group.invariant.0
      (groups-left c.args.file.now c.args.file.now.groups _ _ _ c.as_slice-group-items.ensures c.loop-group-test.true c.group-item.is)
      c.in_ok-run_group.ensures.ok,
  λ base behind. c.in_ok-run_group.ensures.added base (c.loop-group.invariant.1 base behind),
)
