-- What is kept so far, with that of the groups that are left, is that of all.
use Rattle.std.proofs.Common.{◌≡◌, ◌++◌, drop}
use Rattle.std.specs.List.{flat_map}
use Rattle.ql_call.specs.Kept.{kept_of}
use Rattle.ql_call.proofs.ranked.kept_of.Given as goal

abbrev pub invariant-loop-group : goal.invariant-loop-group
invariant-loop-group l =
    flat_map (kept_of l.top l.k) l.groups ≡ l.kept ++ flat_map (kept_of l.top l.k) (drop l.group-index l.groups)
