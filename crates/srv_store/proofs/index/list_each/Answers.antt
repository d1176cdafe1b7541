-- One label more is listed, or those that were listed are taken back.
use Rattle.std.proofs.Common.{take, sym, subst}
use Rattle.srv_store.specs.Indexes.{Index, ListsAt}
use Rattle.srv_store.proofs.IndexLemmas.{listed_step}
use Rattle.srv_store.proofs.index.list_each.Goals as goal

pub returns-in-Err-clause-err : goal.returns-in-Err-clause-err
returns-in-Err-clause-err c = c.unlist.ensures c.args.index.now c.args.number
    (subst (λ (index : Index). ListsAt c.args.index.now index (take c.loop-place.place c.args.labels.now) c.args.number) (sym c.in-Err.ensures.err) c.loop-place.invariant)

pub loop-place-preserved : goal.loop-place-preserved
loop-place-preserved c = listed_step c.args.index.now c.loop-place.index c.list_one.new.index c.args.labels.now c.loop-place.place c.index-labels-place.result c.args.number
    c.loop-place-test.true c.index-labels-place.is c.in-Ok.ensures.ok c.loop-place.invariant
