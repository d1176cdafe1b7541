-- The next file's rules run, or are cut off.
use Rattle.srv_rule.specs.Rounds.{placed_in}
use Rattle.srv_rule.proofs.RunLemmas.{runs-step, runs-cut, files-left, on_err_anyway}
use Rattle.srv_rule.proofs.rounds.run_files.Goals as goal

pub returns-in_err-run_file-clause-err : goal.returns-in_err-run_file-clause-err
returns-in_err-run_file-clause-err c = on_err_anyway c.from_residual.result
    (runs-cut c.args.t c.args.before.now _ _ _ _ (placed_in c.file-item.result) _ _ c.loop-file.invariant.0
    (files-left c.args.files.now _ _ _ c.as_slice-file-items.ensures c.loop-file-test.true c.file-item.is)
    c.in_err-run_file.ensures.err)

pub loop-file-preserved : goal.loop-file-preserved
loop-file-preserved c = (
  runs-step c.args.t c.args.before.now _ _ _ _ _ (placed_in c.file-item.result) _ c.loop-file.invariant.0
      (files-left c.args.files.now _ _ _ c.as_slice-file-items.ensures c.loop-file-test.true c.file-item.is)
      c.in_ok-run_file.ensures.ok,
  λ base behind. c.in_ok-run_file.ensures.added base (c.loop-file.invariant.1 base behind),
)
