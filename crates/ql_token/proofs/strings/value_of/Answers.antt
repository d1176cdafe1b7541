use Rattle.std.proofs.Common.{◌<◌, length, arith, ◌+◌, ◌*◌, ◌^◌}
use Rattle.std.proofs.lemmas.Int.Digits.{digits_value_more}
use Rattle.ql_token.proofs.DigitLemmas.{room}
use Rattle.ql_token.proofs.strings.value_of.Goals as goal

pub overflow_mul-value : goal.overflow_mul-value
overflow_mul-value c =
    let fits : c.loop-b.value * c.args.radix + 0 < 2 ^ 32 =
    room c.args.radix c.args.digits.now c.loop-b.b-index c.loop-b.value 0 c.requires.radix.1 c.requires.count (omega arith)
    c.requires.digits c.loop-b.invariant (omega arith) in
    omega arith

pub overflow_add-value : goal.overflow_add-value
overflow_add-value c =
    let fits : c.loop-b.value * c.args.radix + c.digit.result < 2 ^ 32 =
    room c.args.radix c.args.digits.now c.loop-b.b-index c.loop-b.value c.digit.result c.requires.radix.1 c.requires.count
    (omega arith) c.requires.digits c.loop-b.invariant c.digit.ensures.below in
    omega arith

pub loop-b-preserved : goal.loop-b-preserved
loop-b-preserved c =
    let inside : c.loop-b.b-index < length c.args.digits.now = omega arith in
    grind (arith, digits_value_more c.args.radix c.args.digits.now c.loop-b.b-index inside)
