use Rattle.std.proofs.Common.{arith}
use Rattle.std.specs.Int.{int_min}
use Rattle.std.proofs.lemmas.Int.{ints, clamps}
use Rattle.ql_call.specs.Aggregates.{least}
use Rattle.ql_call.proofs.NumberLemmas.{first_of, fold_numbers, none_of}
use Rattle.ql_call.proofs.numbers.least.Goals as goal

pub loop-thing-init : goal.loop-thing-init
loop-thing-init g c =
    first_of least c.args.things.now c.first-item.result _ c.in-len1-up.len_at_least c.first-item.is (omega (arith, ints))

pub loop-thing-preserved : goal.loop-thing-preserved
loop-thing-preserved g c =
    fold_numbers int_min _ c.loop-thing.thing-index c.thing-item.result _ _ _ c.loop-thing-test.true c.thing-item.is
    c.loop-thing.invariant (omega (arith, ints, clamps))

pub returns-in_default : goal.returns-in_default
returns-in_default g c = none_of least c.args.things.now c.in_default.len_below
