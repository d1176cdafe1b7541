-- The increase so far, with that from the last number on, is that of all. It is at least -2^63 a number,
-- and at most 2^63 a number and what the last number is above -2^63.
use Rattle.std.proofs.Common.{◌≡◌, ◌∷◌, ◌*◌, ◌+◌, ◌^◌, pos, ◌+ℤ◌, neg_ℤ, ◌≤ℤ◌, drop}
use Rattle.ql_call.specs.Numbers.{numbers_in}
use Rattle.ql_call.specs.Over as spec
use Rattle.ql_call.proofs.counters.increase_in.Given as goal

abbrev pub invariant-loop-thing : goal.invariant-loop-thing
invariant-loop-thing g l =
    (spec.increase_in (numbers_in l.fn.things) ≡ l.increase +ℤ spec.increase_in (l.earlier ∷ numbers_in (drop l.thing-index l.later))) ×
    (neg_ℤ (pos (2 ^ 63 * l.thing-index)) ≤ℤ l.increase) ×
    (l.increase ≤ℤ (pos (2 ^ 63 * l.thing-index + 2 ^ 63) +ℤ l.earlier))
