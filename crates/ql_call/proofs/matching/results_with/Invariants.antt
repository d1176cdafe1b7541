-- The results so far, with those of the elements that are left, are those of all.
use Rattle.std.proofs.Common.{◌≡◌, ◌++◌, drop}
use Rattle.std.specs.List.{flat_map}
use Rattle.ql_call.specs.Matched as spec
use Rattle.ql_call.proofs.matching.results_with.Given as goal

abbrev pub invariant-loop-many : goal.invariant-loop-many
invariant-loop-many l =
    flat_map (spec.result_of l.op l.boolean l.matching l.ones) l.manys
    ≡ l.results ++ flat_map (spec.result_of l.op l.boolean l.matching l.ones) (drop l.many-index l.manys)
