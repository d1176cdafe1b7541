use Rattle.std.proofs.Common.{◌≡◌, ◌++◌, drop}
use Rattle.op_manifest.specs.Trees.{items_in}
use Rattle.op_manifest.specs.Shapes.{later}
use Rattle.op_manifest.specs.Checks.{items_from}
use Rattle.op_manifest.specs.Values.{each_of}
use Rattle.op_input.specs.Samples.{sample, sample_of}
use Rattle.op_input.proofs.page.read_samples.Given as goal

-- what is left gives the rest of the breaches and of the samples
abbrev pub invariant-loop-index : goal.invariant-loop-index
invariant-loop-index l = record {
  wrongs : later l.initial.found (items_from sample l.path 0 (items_in l.items))
      ≡ later l.found (items_from sample l.path l.index (items_in (drop l.index l.items)));
  samples : each_of sample_of (items_in l.items) ≡ l.all ++ each_of sample_of (items_in (drop l.index l.items));
}
