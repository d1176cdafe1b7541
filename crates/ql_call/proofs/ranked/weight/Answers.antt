use Rattle.std.proofs.Common.{arith}
use Rattle.std.proofs.lemmas.Int.{ints}
use Rattle.ql_call.proofs.ranked.weight.Goals as goal

pub overflow_sub-result : goal.overflow_sub-result
overflow_sub-result c = omega (arith, ints)

pub returns-then-top : goal.returns-then-top
returns-then-top c = rw c.if-top.true (omega (arith, ints))

pub returns-else-top : goal.returns-else-top
returns-else-top c = rw c.if-top.false (omega (arith, ints))
