-- The least number so far, and what is left, have the least of all.
use Rattle.std.proofs.Common.{◌≡◌, fold, drop}
use Rattle.std.specs.Int.{int_min}
use Rattle.ql_call.specs.Numbers.{numbers_in}
use Rattle.ql_call.specs.Aggregates as aggregates
use Rattle.ql_call.proofs.numbers.least.Given as goal

abbrev pub invariant-loop-thing : goal.invariant-loop-thing
invariant-loop-thing g l = aggregates.least (numbers_in l.fn.things) ≡ fold int_min l.least (numbers_in (drop l.thing-index l.others))
