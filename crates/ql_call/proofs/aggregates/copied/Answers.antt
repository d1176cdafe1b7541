use Rattle.std.proofs.Common.{refl, sym, ap, ◌∙◌, ◌++◌, ◌∷◌, []}
use Rattle.ql_call.proofs.LoopLemmas.{grown, grown_whole}
use Rattle.ql_call.proofs.aggregates.copied.Goals as goal

pub loop-name-init : goal.loop-name-init
loop-name-init c = ap (λ made. made ++ c.args.names.now) (sym c.new-copies.ensures)

pub loop-name-preserved : goal.loop-name-preserved
loop-name-preserved c =
    grown (λ rest. rest) c.args.names.now c.loop-name.name-index c.name-item.result _ _ _ _ c.loop-name-test.true c.name-item.is
    refl c.loop-name.invariant (c.in_ok-push.ensures.ok ∙ ap (λ one. c.loop-name.copies ++ one ∷ []) c.in_ok-copy_of.ensures)

pub returns : goal.returns
returns c = grown_whole (λ rest. rest) c.args.names.now c.loop-name.name-index _ _ c.loop-name-test.false refl c.loop-name.invariant
