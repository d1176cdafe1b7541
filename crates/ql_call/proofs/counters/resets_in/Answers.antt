use Rattle.std.proofs.Common.{arith}
use Rattle.std.proofs.lemmas.Int.{ints}
use Rattle.ql_call.specs.Over.{resets_in}
use Rattle.ql_call.proofs.NumberLemmas.{count_first, reset_next, none_of}
use Rattle.ql_call.proofs.counters.resets_in.Goals as goal

pub loop-thing-init : goal.loop-thing-init
loop-thing-init g c = (
  count_first resets_in c.args.things.now c.first-item.result _ c.in-len1-up.len_at_least c.first-item.is (omega (arith, ints)),
  omega arith,
)

pub loop-thing-preserved : goal.loop-thing-preserved
loop-thing-preserved g c = (
  reset_next _ c.loop-thing.thing-index c.thing-item.result _ _ _ _ _ _ c.loop-thing-test.true c.thing-item.is
      c.loop-thing.invariant.0 c.fall-count.ensures.value (omega arith) (omega (arith, ints)),
  omega arith,
)

pub returns-in_default : goal.returns-in_default
returns-in_default g c = none_of resets_in c.args.things.now c.in_default.len_below
