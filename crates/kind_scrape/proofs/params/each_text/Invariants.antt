use Rattle.std.proofs.Common.{◌≡◌, ◌++◌, drop}
use Rattle.op_manifest.specs.Trees.{items_in}
use Rattle.op_manifest.specs.Shapes.{later}
use Rattle.op_manifest.specs.Checks.{items_from, text}
use Rattle.op_manifest.specs.Values.{each_of, text_of}
use Rattle.kind_scrape.proofs.params.each_text.Given as goal

-- what is left gives the rest of the breaches and of the texts
abbrev pub invariant-loop-index : goal.invariant-loop-index
invariant-loop-index l = record {
  wrongs : later l.initial.found (items_from text l.path 0 (items_in l.items))
      ≡ later l.found (items_from text l.path l.index (items_in (drop l.index l.items)));
  items : each_of text_of (items_in l.items) ≡ l.all ++ each_of text_of (items_in (drop l.index l.items));
}
