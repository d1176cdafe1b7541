use Rattle.std.proofs.Common.{refl, sym, ap, ◌∙◌, ◌++◌, ◌∷◌, [], map}
use Rattle.ql_call.specs.Matched as spec
use Rattle.ql_call.proofs.LoopLemmas.{grown, grown_whole}
use Rattle.ql_call.proofs.keys.keyed.Goals as goal

pub loop-element-init : goal.loop-element-init
loop-element-init c = ap (λ made. made ++ map (spec.keyed c.args.matching.now) c.args.elements.now) (sym c.new-changed.ensures)

pub loop-element-preserved : goal.loop-element-preserved
loop-element-preserved c =
    grown (map (spec.keyed c.args.matching.now)) c.args.elements.now c.loop-element.element-index c.element-item.result _ _ _ _ c.loop-element-test.true c.element-item.is
    refl c.loop-element.invariant (c.in_ok-push.ensures.ok ∙ ap (λ one. c.loop-element.changed ++ one ∷ []) c.in_ok-with_key.ensures)

pub returns : goal.returns
returns c = grown_whole (map (spec.keyed c.args.matching.now)) c.args.elements.now c.loop-element.element-index _ _ c.loop-element-test.false refl c.loop-element.invariant
