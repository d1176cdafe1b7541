use Rattle.std.proofs.Common.{◌≡◌, ◌++◌, drop, map}
use Rattle.ql_call.specs.Matched as spec
use Rattle.ql_call.proofs.keys.rekeyed.Given as goal

abbrev pub invariant-loop-element : goal.invariant-loop-element
invariant-loop-element l =
    map (spec.rekeyed l.matching) l.results
    ≡ l.changed ++ map (spec.rekeyed l.matching) (drop l.element-index l.results)
