-- The elements so far, with those of what is left, are all.
use Rattle.std.proofs.Common.{◌≡◌, ◌++◌, drop}
use Rattle.std.specs.List.{flat_map}
use Rattle.ql_call.specs.Calls as spec
use Rattle.ql_call.proofs.calls.all_over.Given as goal

abbrev pub invariant-loop-one : goal.invariant-loop-one
invariant-loop-one l =
    flat_map (spec.over_one l.function l.range) l.series
    ≡ l.changed ++ flat_map (spec.over_one l.function l.range) (drop l.one-index l.series)
