use Rattle.ql_call.proofs.WalkLemmas.{walked-further}
use Rattle.ql_call.proofs.clashes.first_clash.Goals as goal

pub loop-index-preserved : goal.loop-index-preserved
loop-index-preserved c =
    walked-further c.args.changed.now c.loop-index.index c.index-changed-changed.result c.loop-index.walk c.step.new.walk
    c.loop-index-test.true c.index-changed-changed.is c.loop-index.invariant c.in_ok-step.ensures
