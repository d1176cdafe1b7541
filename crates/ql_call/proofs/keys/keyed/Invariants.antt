use Rattle.std.proofs.Common.{◌≡◌, ◌++◌, drop, map}
use Rattle.ql_call.specs.Matched as spec
use Rattle.ql_call.proofs.keys.keyed.Given as goal

abbrev pub invariant-loop-element : goal.invariant-loop-element
invariant-loop-element l =
    map (spec.keyed l.matching) l.elements
    ≡ l.changed ++ map (spec.keyed l.matching) (drop l.element-index l.elements)
