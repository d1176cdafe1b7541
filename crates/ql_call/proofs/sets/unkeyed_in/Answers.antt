use Rattle.std.proofs.Common.{refl, sym, ap, ◌∙◌, ◌++◌, ◌∷◌, [], filter, not, if◌then◌else◌}
use Rattle.ql_call.specs.Keyed as steps
use Rattle.ql_call.proofs.LoopLemmas.{grown, grown_whole, filter_next}
use Rattle.ql_call.proofs.sets.unkeyed_in.Goals as goal

pub loop-element-init : goal.loop-element-init
loop-element-init c = ap (λ made. made ++ filter (steps.is_unkeyed c.args.matching.now c.args.by_key.now) c.args.elements.now) (sym c.new-kept.ensures)

pub loop-element-preserved : goal.loop-element-preserved
loop-element-preserved c =
    grown (filter (steps.is_unkeyed c.args.matching.now c.args.by_key.now)) c.args.elements.now c.loop-element.element-index c.element-item.result _ _ _ _
    c.loop-element-test.true c.element-item.is (filter_next (steps.is_unkeyed c.args.matching.now c.args.by_key.now) c.element-item.result _) c.loop-element.invariant
    (c.in_ok-push_if.ensures ∙ ap (λ b. c.loop-element.kept ++ (if not b then c.element-item.result ∷ [] else [])) c.in_ok-wanted.ensures)

pub returns : goal.returns
returns c =
    grown_whole (filter (steps.is_unkeyed c.args.matching.now c.args.by_key.now)) c.args.elements.now c.loop-element.element-index _ _ c.loop-element-test.false
    refl c.loop-element.invariant
