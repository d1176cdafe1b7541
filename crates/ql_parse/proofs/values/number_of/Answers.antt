use Rattle.std.proofs.Common.{◌<◌, ◌≤◌, ◌+◌, ◌*◌, length, get_or, refl, arith}
use Rattle.std.specs.Char.{digit_value}
use Rattle.std.proofs.lemmas.Int.Digits.{digits_value_more}
use Rattle.ql_tree.specs.Tokens.{MOST}
use Rattle.ql_parse.proofs.ValueLemmas.{digit_fits}
use Rattle.ql_parse.proofs.values.number_of.Goals as goal

pub overflow_add-value : goal.overflow_add-value
overflow_add-value c =
    let below : c.loop-b.value * 10 + c.digit.result ≤ MOST =
    digit_fits c.args.digits.now c.loop-b.b-index c.loop-b.value c.digit.result c.loop-b-test.true
    c.loop-b.invariant c.digit.ensures c.requires.fits in
    omega (arith, below)

pub overflow_mul-value : goal.overflow_mul-value
overflow_mul-value c =
    let digits = c.args.digits.now in
    let i = c.loop-b.b-index in
    let below : c.loop-b.value * 10 + digit_value (get_or digits i 0) ≤ MOST =
    digit_fits digits i c.loop-b.value (digit_value (get_or digits i 0)) c.loop-b-test.true
    c.loop-b.invariant refl c.requires.fits in
    omega (arith, below)

pub loop-b-preserved : goal.loop-b-preserved
loop-b-preserved c =
    let inside : c.loop-b.b-index < length c.args.digits.now = c.loop-b-test.true in
    grind (arith, digits_value_more 10 c.args.digits.now c.loop-b.b-index inside)
