use Rattle.std.proofs.Common.{◌≡◌, ◌++◌, map, take}
use Rattle.serde_json.specs.View.{view}
use Rattle.op_manifest.specs.Trees.{data_of, field_seen, member_seen}
use Rattle.op_manifest.proofs.tree.+tree_from.Given as goal

-- the items read so far are those of the values before
abbrev pub invariant-loop-value : goal.invariant-loop-value
invariant-loop-value l = map data_of l.items ≡ map view (take l.value-index l.value-items)

-- the fields read so far, and the members that are left, are all members
abbrev pub invariant-loop-name : goal.invariant-loop-name
invariant-loop-name l =
    map member_seen l.initial.name-iterator ≡ map field_seen l.fields ++ map member_seen l.name-iterator
