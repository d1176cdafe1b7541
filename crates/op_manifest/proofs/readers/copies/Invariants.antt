use Rattle.std.proofs.Common.{◌≡◌, map, take}
use Rattle.op_manifest.specs.Trees.{data_of}
use Rattle.op_manifest.proofs.readers.copies.Given as goal

-- the copies so far are of the trees before
abbrev pub invariant-loop-tree : goal.invariant-loop-tree
invariant-loop-tree l = map data_of l.copies ≡ map data_of (take l.tree-index l.trees)
