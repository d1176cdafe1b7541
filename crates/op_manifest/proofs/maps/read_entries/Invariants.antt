use Rattle.std.proofs.Common.{◌≡◌, drop}
use Rattle.op_base.specs.Maps.{text_cmp, put_all}
use Rattle.op_manifest.specs.Trees.{members_in}
use Rattle.op_manifest.specs.Shapes.{later}
use Rattle.op_manifest.specs.Checks.{entries_wrongs, worded}
use Rattle.op_manifest.specs.Maps.{map_of, entries_of}
use Rattle.op_manifest.proofs.maps.read_entries.Given as goal

-- what is left gives the rest of the breaches and of the entries
abbrev pub invariant-loop-field : goal.invariant-loop-field
invariant-loop-field g l =
    let K = g.K.TextForm in
    let V = g.V.TextForm in
    let wrongs = entries_wrongs K.passes K.broken (worded V.broken V.passes) l.path in
    record {
      wrongs : later l.initial.found (wrongs (members_in l.fields)) ≡ later l.found (wrongs (members_in (drop l.field-index l.fields)));
      map : map_of (members_in l.fields) ≡ put_all text_cmp l.all (entries_of (members_in (drop l.field-index l.fields)));
    }
