use Rattle.std.proofs.Common.{refl, sym, ap, ◌++◌, map}
use Rattle.ql_call.specs.Aggregates as spec
use Rattle.ql_call.proofs.LoopLemmas.{grown, grown_whole}
use Rattle.ql_call.proofs.aggregates.with_decimals.Goals as goal

pub loop-element-init : goal.loop-element-init
loop-element-init c = ap (λ made. made ++ map (spec.with_decimal c.args.label.now) c.args.elements.now) (sym c.new-labelled.ensures)

pub loop-element-preserved : goal.loop-element-preserved
loop-element-preserved c =
    grown (map (spec.with_decimal c.args.label.now)) c.args.elements.now c.loop-element.element-index c.element-item.result _ _ _ _ c.loop-element-test.true c.element-item.is
    refl c.loop-element.invariant c.in_ok-push_with_decimal.ensures

pub returns : goal.returns
returns c = grown_whole (map (spec.with_decimal c.args.label.now)) c.args.elements.now c.loop-element.element-index _ _ c.loop-element-test.false refl c.loop-element.invariant
