-- The sum so far, with what is left, is the sum of all; its size is at most 2^63 a number.
use Rattle.std.proofs.Common.{◌≡◌, ◌*◌, ◌^◌, pos, ◌+ℤ◌, neg_ℤ, ◌≤ℤ◌, fold, drop}
use Rattle.ql_call.specs.Elements as elements
use Rattle.ql_call.specs.Numbers.{numbers_in}
use Rattle.ql_call.proofs.numbers.total.Given as goal

abbrev pub invariant-loop-thing : goal.invariant-loop-thing
invariant-loop-thing g l =
    (elements.total (numbers_in l.things) ≡ fold ◌+ℤ◌ l.sum (numbers_in (drop l.thing-index l.things))) ×
    (neg_ℤ (pos (2 ^ 63 * l.thing-index)) ≤ℤ l.sum) ×
    (l.sum ≤ℤ pos (2 ^ 63 * l.thing-index))
