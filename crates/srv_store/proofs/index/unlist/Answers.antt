-- One label fewer is left.
use Rattle.std.proofs.Common.{arith, drop}
use Rattle.std.proofs.lemmas.List.{drop_all}
use Rattle.srv_store.proofs.IndexLemmas.{lists_none, taken_step}
use Rattle.srv_store.proofs.index.unlist.Goals as goal

pub loop-label-preserved : goal.loop-label-preserved
loop-label-preserved c = λ listed n at.
    taken_step listed c.loop-label.index c.pop-taken.new.self c.args.labels.now c.loop-label.label-index c.label-item.result n
    c.loop-label-test.true c.label-item.is c.pop-taken.ensures.rest (c.loop-label.invariant listed n at)

pub returns : goal.returns
returns c = λ listed n at.
    lists_none listed c.loop-label.index (drop c.loop-label.label-index c.args.labels.now) n (drop_all c.loop-label.label-index c.args.labels.now (omega arith)) (c.loop-label.invariant listed n at)
