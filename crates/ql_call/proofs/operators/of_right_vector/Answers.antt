use Rattle.std.proofs.Common.{refl, sym, ap, ◌∙◌, ◌++◌}
use Rattle.std.specs.List.{flat_map}
use Rattle.std.proofs.lemmas.Result.{IfOk-weaker}
use Rattle.ql_call.specs.Clashes.{gathered}
use Rattle.ql_call.specs.Operators as spec
use Rattle.ql_call.proofs.LoopLemmas.{grown, grown_whole}
use Rattle.ql_call.proofs.operators.of_right_vector.Goals as goal

pub loop-element-init : goal.loop-element-init
loop-element-init c = ap (λ made. made ++ flat_map (spec.right_element c.args.op c.args.boolean c.args.number.now) c.args.elements.now) (sym c.new-changed.ensures)

pub loop-element-preserved : goal.loop-element-preserved
loop-element-preserved c =
    grown (flat_map (spec.right_element c.args.op c.args.boolean c.args.number.now)) c.args.elements.now c.loop-element.element-index c.element-item.result _ _ _ _ c.loop-element-test.true c.element-item.is
    refl c.loop-element.invariant c.in_ok-push_right.ensures

pub returns : goal.returns
returns c =
    IfOk-weaker c.gathered.result _ _
    (λ outcome is. is ∙ ap gathered
    (grown_whole (flat_map (spec.right_element c.args.op c.args.boolean c.args.number.now)) c.args.elements.now c.loop-element.element-index _ _ c.loop-element-test.false refl c.loop-element.invariant))
    c.gathered.ensures
