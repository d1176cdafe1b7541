-- The neighbours that differ so far, with those from the last number on, are those of all.
use Rattle.std.proofs.Common.{◌≡◌, ◌+◌, ◌≤◌, ◌∷◌, drop}
use Rattle.ql_call.specs.Numbers.{numbers_in}
use Rattle.ql_call.specs.Over as spec
use Rattle.ql_call.proofs.counters.changes_in.Given as goal

abbrev pub invariant-loop-thing : goal.invariant-loop-thing
invariant-loop-thing g l =
    (spec.changes_in (numbers_in l.fn.things) ≡ l.count + spec.changes_in (l.earlier ∷ numbers_in (drop l.thing-index l.later))) ×
    (l.count ≤ l.thing-index)
