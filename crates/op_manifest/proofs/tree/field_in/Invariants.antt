use Rattle.std.proofs.Common.{◌≡◌, drop}
use Rattle.serde_json.specs.Find.{get_member}
use Rattle.op_manifest.specs.Trees.{members_in}
use Rattle.op_manifest.proofs.tree.field_in.Given as goal

-- no field so far has the name
abbrev pub invariant-loop-field : goal.invariant-loop-field
invariant-loop-field l =
    get_member l.name (members_in l.fields) ≡ get_member l.name (members_in (drop l.field-index l.fields))
