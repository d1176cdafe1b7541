use Rattle.std.proofs.Common.{refl, sym, ap, ◌++◌}
use Rattle.std.specs.List.{flat_map}
use Rattle.ql_call.specs.Matched as spec
use Rattle.ql_call.proofs.LoopLemmas.{grown, grown_whole}
use Rattle.ql_call.proofs.matching.results_with.Goals as goal

pub loop-many-init : goal.loop-many-init
loop-many-init c = ap (λ made. made ++ flat_map (spec.result_of c.args.op c.args.boolean c.args.matching.now c.args.ones.now) c.args.manys.now) (sym c.new-results.ensures)

pub loop-many-preserved : goal.loop-many-preserved
loop-many-preserved c =
    grown (flat_map (spec.result_of c.args.op c.args.boolean c.args.matching.now c.args.ones.now)) c.args.manys.now c.loop-many.many-index c.many-item.result _ _ _ _ c.loop-many-test.true c.many-item.is
    refl c.loop-many.invariant c.in_ok-push_result.ensures

pub returns : goal.returns
returns c = grown_whole (flat_map (spec.result_of c.args.op c.args.boolean c.args.matching.now c.args.ones.now)) c.args.manys.now c.loop-many.many-index _ _ c.loop-many-test.false refl c.loop-many.invariant
