use Rattle.std.proofs.Common.{◌≡◌, drop, map}
use Rattle.op_manifest.specs.Trees.{members_in}
use Rattle.op_manifest.specs.Shapes.{later}
use Rattle.op_manifest.specs.Checks.{strays}
use Rattle.op_manifest.proofs.strays.note_strays.Given as goal

-- what is left gives the rest of the breaches
abbrev pub invariant-loop-field : goal.invariant-loop-field
invariant-loop-field l =
    let names = map (λ name. name.now) l.names in
    later l.initial.found (strays names l.path (members_in l.fields))
    ≡ later l.found (strays names l.path (members_in (drop l.field-index l.fields)))
