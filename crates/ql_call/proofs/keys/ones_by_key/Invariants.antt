-- The elements so far, with those that are left, are all by their keys.
use Rattle.std.proofs.Common.{◌≡◌, drop, fold}
use Rattle.ql_call.specs.Keyed as steps
use Rattle.ql_call.specs.Matched as spec
use Rattle.ql_call.proofs.keys.ones_by_key.Given as goal

abbrev pub invariant-loop-one : goal.invariant-loop-one
invariant-loop-one l =
    spec.ones_by_key l.matching l.ones
    ≡ fold (steps.with_one l.matching) l.by_key (drop l.one-index l.ones)
