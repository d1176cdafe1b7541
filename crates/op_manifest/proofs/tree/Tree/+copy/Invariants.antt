use Rattle.std.proofs.Common.{◌≡◌, map, take}
use Rattle.op_manifest.specs.Trees.{data_of, field_seen}
use Rattle.op_manifest.proofs.tree.Tree.+copy.Given as goal

-- the copies so far are of the items before
abbrev pub invariant-loop-tree : goal.invariant-loop-tree
invariant-loop-tree l = map data_of l.items ≡ map data_of (take l.tree-index l.tree-items)

-- the copies so far are of the fields before
abbrev pub invariant-loop-part : goal.invariant-loop-part
invariant-loop-part l = map field_seen l.fields ≡ map field_seen (take l.part-index l.part-items)
