-- The walk found what is found of the last elements.
use Rattle.std.proofs.Common.{◌≡◌, ◌-◌, length, drop}
use Rattle.ql_call.specs.Walks as walks
use Rattle.ql_call.proofs.clashes.first_clash.Given as goal

abbrev pub invariant-loop-index : goal.invariant-loop-index
invariant-loop-index l = l.walk ≡ walks.walked (drop (length l.changed - l.index) l.changed)
