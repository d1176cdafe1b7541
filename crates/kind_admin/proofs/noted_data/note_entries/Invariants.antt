use Rattle.std.proofs.Common.{◌≡◌, drop}
use Rattle.op_manifest.specs.declared.shape.TheConstants.ShapeRule.{BAD_CHOICE, BAD_LABEL}
use Rattle.op_manifest.specs.Trees.{members_in}
use Rattle.op_manifest.specs.Shapes.{later}
use Rattle.op_manifest.specs.Checks.{entries_wrongs, worded}
use Rattle.op_manifest.specs.Maps.{is_any}
use Rattle.kind_admin.specs.Secrets.{is_base64}
use Rattle.kind_admin.proofs.noted_data.note_entries.Given as goal

-- what is left gives the rest of the breaches
abbrev pub invariant-loop-field : goal.invariant-loop-field
invariant-loop-field l =
    let wrongs = entries_wrongs is_any BAD_LABEL (worded BAD_CHOICE is_base64) l.path in
    later l.initial.found (wrongs (members_in l.fields)) ≡ later l.found (wrongs (members_in (drop l.field-index l.fields)))
