use Rattle.std.proofs.Common.{SFits, arith, rules}
use mir.Syntax.{w64}
use Rattle.std.proofs.lemmas.Int.{ints}
use Rattle.ql_call.specs.Over.{increase_in}
use Rattle.ql_call.proofs.NumberLemmas.{increase_first, increase_next, none_of}
use Rattle.ql_call.proofs.counters.increase_in.Goals as goal

pub loop-thing-init : goal.loop-thing-init
loop-thing-init g c =
    let fits : SFits w64 c.first-item.result.1 = search rules in (
      increase_first c.args.things.now c.first-item.result _ c.in-len1-up.len_at_least c.first-item.is (omega (arith, ints)),
      omega (arith, ints),
      omega (arith, ints),
    )

pub overflow_add-increase : goal.overflow_add-increase
overflow_add-increase g c =
    omega (arith, ints)

pub loop-thing-preserved : goal.loop-thing-preserved
loop-thing-preserved g c = (
  increase_next _ c.loop-thing.thing-index c.thing-item.result _ _ _ _ _ c.rise-increase.result c.loop-thing-test.true c.thing-item.is
      c.loop-thing.invariant.0 c.rise-increase.ensures.value (omega (arith, ints)) (omega (arith, ints)),
  omega (arith, ints),
  omega (arith, ints),
)

pub returns-in_default : goal.returns-in_default
returns-in_default g c = none_of increase_in c.args.things.now c.in_default.len_below
