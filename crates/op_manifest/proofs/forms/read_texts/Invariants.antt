use Rattle.std.proofs.Common.{◌≡◌, ◌++◌, drop}
use Rattle.op_manifest.specs.Trees.{items_in}
use Rattle.op_manifest.specs.Shapes.{later}
use Rattle.op_manifest.specs.Checks.{items_from, worded}
use Rattle.op_manifest.specs.Values.{each_of, text_of}
use Rattle.op_manifest.proofs.forms.read_texts.Given as goal

-- what is left gives the rest of the breaches and of the items
abbrev pub invariant-loop-index : goal.invariant-loop-index
invariant-loop-index g l = record {
  wrongs : later l.initial.found (items_from (worded g.F.TextForm.broken g.F.TextForm.passes) l.path 0 (items_in l.items))
      ≡ later l.found (items_from (worded g.F.TextForm.broken g.F.TextForm.passes) l.path l.index (items_in (drop l.index l.items)));
  items : each_of text_of (items_in l.items) ≡ l.all ++ each_of text_of (items_in (drop l.index l.items));
}
