-- The ranks so far, with those of what is left, are those of all.
use Rattle.std.proofs.Common.{◌≡◌, ◌++◌, drop, map}
use Rattle.ql_call.specs.Ranked as spec
use Rattle.ql_call.proofs.ranked.at_ranks.Given as goal

abbrev pub invariant-loop-element : goal.invariant-loop-element
invariant-loop-element l =
    map (spec.rank_of l.top) l.elements ≡ l.placed ++ map (spec.rank_of l.top) (drop l.element-index l.elements)
