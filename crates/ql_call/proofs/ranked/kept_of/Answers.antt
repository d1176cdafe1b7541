use Rattle.std.proofs.Common.{refl, sym, ap, ◌++◌}
use Rattle.std.specs.List.{flat_map}
use Rattle.ql_call.specs.Kept.{kept_of}
use Rattle.ql_call.proofs.LoopLemmas.{grown, grown_whole}
use Rattle.ql_call.proofs.ranked.kept_of.Goals as goal

pub loop-group-init : goal.loop-group-init
loop-group-init c = ap (λ made. made ++ flat_map (kept_of c.args.top c.args.k.now) c.args.groups.now) (sym c.new-kept.ensures)

pub loop-group-preserved : goal.loop-group-preserved
loop-group-preserved c =
    grown (flat_map (kept_of c.args.top c.args.k.now)) c.args.groups.now c.loop-group.group-index c.group-item.result _ _ _ _ c.loop-group-test.true c.group-item.is
    refl c.loop-group.invariant c.in_ok-keep_first.ensures

pub returns : goal.returns
returns c = grown_whole (flat_map (kept_of c.args.top c.args.k.now)) c.args.groups.now c.loop-group.group-index _ _ c.loop-group-test.false refl c.loop-group.invariant
