use Rattle.std.proofs.Common.{fold, sym, ap}
use Rattle.ql_call.specs.Keyed as steps
use Rattle.ql_call.proofs.LoopLemmas.{fold_next, fold_whole}
use Rattle.ql_call.proofs.keys.ones_by_key.Goals as goal

pub loop-one-init : goal.loop-one-init
loop-one-init c = ap (λ by_key. fold (steps.with_one c.args.matching.now) by_key c.args.ones.now) (sym c.new-by_key.ensures)

pub loop-one-preserved : goal.loop-one-preserved
loop-one-preserved c =
    fold_next (steps.with_one c.args.matching.now) c.args.ones.now c.loop-one.one-index c.one-item.result _ _ _ c.loop-one-test.true c.one-item.is
    c.loop-one.invariant c.in_ok-add_one.ensures

pub returns : goal.returns
returns c = fold_whole (steps.with_one c.args.matching.now) c.args.ones.now c.loop-one.one-index _ _ c.loop-one-test.false c.loop-one.invariant
