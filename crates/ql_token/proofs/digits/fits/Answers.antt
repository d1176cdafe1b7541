use Rattle.std.proofs.Common.{◌<◌, length, arith, sym}
use Rattle.std.proofs.lemmas.Int.Digits.{digits_value_more}
use Rattle.ql_token.proofs.DigitLemmas.{too_large}
use Rattle.ql_token.proofs.digits.fits.Goals as goal

pub returns-then-value-gt-MOST : goal.returns-then-value-gt-MOST
returns-then-value-gt-MOST c =
    sym (too_large c.args.digits.now c.loop-b.b-index c.loop-b.value c.digit.result (omega arith)
    c.loop-b.invariant.0 c.digit.ensures (omega arith))

pub loop-b-preserved : goal.loop-b-preserved
loop-b-preserved c =
    let inside : c.loop-b.b-index < length c.args.digits.now = omega arith in
    (grind (arith, digits_value_more 10 c.args.digits.now c.loop-b.b-index inside), omega arith)
