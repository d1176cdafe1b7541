use Rattle.std.proofs.Common.{◌+ℤ◌, arith}
use Rattle.std.proofs.lemmas.Int.{ints}
use Rattle.ql_call.proofs.NumberLemmas.{fold_numbers}
use Rattle.ql_call.proofs.numbers.total.Goals as goal

pub loop-thing-preserved : goal.loop-thing-preserved
loop-thing-preserved g c = (
  fold_numbers ◌+ℤ◌ c.args.things.now c.loop-thing.thing-index c.thing-item.result _ _ _ c.loop-thing-test.true c.thing-item.is
      c.loop-thing.invariant.0 (omega (arith, ints)),
  omega (arith, ints),
  omega (arith, ints),
)
