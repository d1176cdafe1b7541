use Rattle.std.proofs.Common.{◌≡◌, ◌++◌, drop}
use Rattle.op_manifest.specs.declared.shape.TheConstants.ShapeRule.{BAD_LABEL}
use Rattle.op_manifest.specs.Trees.{members_in}
use Rattle.op_manifest.specs.Shapes.{later}
use Rattle.op_manifest.specs.Checks.{entries_wrongs, list, text}
use Rattle.op_manifest.specs.Maps.{is_any}
use Rattle.kind_scrape.specs.Params.{params_of}
use Rattle.kind_scrape.proofs.params.read_params.Given as goal

-- what is left gives the rest of the breaches and of the parameters
abbrev pub invariant-loop-field : goal.invariant-loop-field
invariant-loop-field l =
    let wrongs = entries_wrongs is_any BAD_LABEL (list text) l.path in
    record {
      wrongs : later l.initial.found (wrongs (members_in l.fields)) ≡ later l.found (wrongs (members_in (drop l.field-index l.fields)));
      params : params_of (members_in l.fields) ≡ l.all ++ params_of (members_in (drop l.field-index l.fields));
    }
