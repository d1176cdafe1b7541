use Rattle.std.proofs.Common.{◌≡◌, take, map}
use Rattle.op_manifest.specs.Selectors.{is_pair}
use Rattle.op_manifest.proofs.selector.pairs.Given as goal

-- the pairs so far
abbrev pub invariant-loop-index : goal.invariant-loop-index
invariant-loop-index l = l.all ≡ map is_pair (take l.index l.labels)
