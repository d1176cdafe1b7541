use Rattle.std.proofs.Common.{[], ◌∷◌, ◌++◌, ◌∙◌, ap, sym}
use Rattle.srv_store.proofs.IndexLemmas.{range_next}
use Rattle.srv_store.proofs.candidates.all_numbers.Goals as goal

pub loop-number-preserved : goal.loop-number-preserved
loop-number-preserved c = c.in_ok-push.ensures.ok ∙ ap (λ numbers. numbers ++ c.loop-number.number ∷ []) c.loop-number.invariant ∙ sym (range_next c.loop-number.number)
