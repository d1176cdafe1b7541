-- The elements so far, with what is left, are all.
use Rattle.std.proofs.Common.{◌≡◌, ◌++◌, length, drop}
use Rattle.ql_call.specs.Calls as spec
use Rattle.ql_call.proofs.calls.stamped.Given as goal

abbrev pub invariant-loop-element : goal.invariant-loop-element
invariant-loop-element l =
    spec.stamped l.elements l.moments
    ≡ l.changed ++ spec.stamped (drop (length l.yielded) l.elements) (drop (length l.yielded) l.moments)
