use Rattle.std.proofs.Common.{arith}
use Rattle.std.proofs.lemmas.Int.{ints}
use Rattle.ql_call.specs.Over.{changes_in}
use Rattle.ql_call.proofs.NumberLemmas.{count_first, change_next, none_of}
use Rattle.ql_call.proofs.counters.changes_in.Goals as goal

pub loop-thing-init : goal.loop-thing-init
loop-thing-init g c = (
  count_first changes_in c.args.things.now c.first-item.result _ c.in-len1-up.len_at_least c.first-item.is (omega (arith, ints)),
  omega arith,
)

pub loop-thing-preserved : goal.loop-thing-preserved
loop-thing-preserved g c = (
  change_next _ c.loop-thing.thing-index c.thing-item.result _ _ _ _ _ _ c.loop-thing-test.true c.thing-item.is
      c.loop-thing.invariant.0 c.change-count.ensures.value (omega arith) (omega (arith, ints)),
  omega arith,
)

pub returns-in_default : goal.returns-in_default
returns-in_default g c = none_of changes_in c.args.things.now c.in_default.len_below
