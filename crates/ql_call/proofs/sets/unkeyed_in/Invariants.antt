use Rattle.std.proofs.Common.{◌≡◌, ◌++◌, drop, filter}
use Rattle.ql_call.specs.Keyed as steps
use Rattle.ql_call.proofs.sets.unkeyed_in.Given as goal

abbrev pub invariant-loop-element : goal.invariant-loop-element
invariant-loop-element l =
    filter (steps.is_unkeyed l.matching l.by_key) l.elements
    ≡ l.kept ++ filter (steps.is_unkeyed l.matching l.by_key) (drop l.element-index l.elements)
