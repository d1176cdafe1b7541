use Rattle.std.proofs.Common.{refl, sym, ap, ◌++◌, map}
use Rattle.ql_call.specs.Calls as spec
use Rattle.ql_call.specs.CallSteps as steps
use Rattle.ql_call.proofs.LoopLemmas.{grown, grown_whole}
use Rattle.ql_call.proofs.values.all_changed.Goals as goal

pub loop-element-init : goal.loop-element-init
loop-element-init c = ap (λ made. made ++ map (spec.unnamed (steps.change_of c.args.change.now)) c.args.elements.now) (sym c.new-changed.ensures)

pub loop-element-preserved : goal.loop-element-preserved
loop-element-preserved c =
    grown (map (spec.unnamed (steps.change_of c.args.change.now))) c.args.elements.now c.loop-element.element-index c.element-item.result _ _ _ _ c.loop-element-test.true c.element-item.is
    refl c.loop-element.invariant c.in_ok-push_changed.ensures

pub returns : goal.returns
returns c = grown_whole (map (spec.unnamed (steps.change_of c.args.change.now))) c.args.elements.now c.loop-element.element-index _ _ c.loop-element-test.false refl c.loop-element.invariant
