-- One digit more, and the end.
use Rattle.std.proofs.Common.{◌≡◌, ◌+◌, ◌-◌, ◌*◌, ◌∙◌, sym, get_or, drop, arith}
use Rattle.std.proofs.lemmas.List.{at_drop_more, at_drop_all}
use Rattle.op_base.specs.Spans.{capped, number_after}
use Rattle.op_base.proofs.SpanLemmas.{number-more}
use Rattle.op_base.proofs.span.number.Goals as goal

pub loop-digit-preserved : goal.loop-digit-preserved
loop-digit-preserved c =
    let is : c.saturating_add-number.result ≡ capped (capped (c.loop-digit.number * 10) + (get_or c.args.digits.now c.loop-digit.digit-index 0 - 48)) = cc in
    let step = at_drop_more (λ rest. capped (number_after c.loop-digit.number rest)) c.args.digits.now c.loop-digit.digit-index 0 c.loop-digit-test.true in (
      number-more c.loop-digit.number _ _ (drop (c.loop-digit.digit-index + 1) c.args.digits.now) is ∙ sym step ∙ c.loop-digit.invariant.0,
      omega (arith, is),
    )

pub returns : goal.returns
returns c =
    let whole : capped c.loop-digit.number ≡ c.loop-digit.number = omega (arith, c.loop-digit.invariant.1) in
    sym whole ∙ sym (at_drop_all (λ rest. capped (number_after c.loop-digit.number rest)) c.args.digits.now c.loop-digit.digit-index c.loop-digit-test.false) ∙ c.loop-digit.invariant.0
