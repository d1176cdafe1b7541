use Rattle.std.proofs.Common.{refl, sym, ap, ◌++◌}
use Rattle.std.specs.List.{flat_map}
use Rattle.ql_call.specs.Calls as spec
use Rattle.ql_call.proofs.LoopLemmas.{grown, grown_whole}
use Rattle.ql_call.proofs.calls.all_over.Goals as goal

pub loop-one-init : goal.loop-one-init
loop-one-init c = ap (λ made. made ++ flat_map (spec.over_one c.args.function c.args.range) c.args.series.now) (sym c.new-changed.ensures)

pub loop-one-preserved : goal.loop-one-preserved
loop-one-preserved c =
    grown (flat_map (spec.over_one c.args.function c.args.range)) c.args.series.now c.loop-one.one-index c.one-item.result _ _ _ _ c.loop-one-test.true c.one-item.is
    refl c.loop-one.invariant c.in_ok-push_over.ensures

pub returns : goal.returns
returns c = grown_whole (flat_map (spec.over_one c.args.function c.args.range)) c.args.series.now c.loop-one.one-index _ _ c.loop-one-test.false refl c.loop-one.invariant
