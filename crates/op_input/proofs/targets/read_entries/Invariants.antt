use Rattle.std.proofs.Common.{◌≡◌, ◌++◌, drop}
use Rattle.op_manifest.specs.Trees.{items_in}
use Rattle.op_manifest.specs.Shapes.{later}
use Rattle.op_manifest.specs.Checks.{items_from}
use Rattle.op_manifest.specs.Values.{each_of}
use Rattle.op_input.specs.Targets.{entry, entry_of}
use Rattle.op_input.proofs.targets.read_entries.Given as goal

-- what is left gives the rest of the breaches and of the entries
abbrev pub invariant-loop-index : goal.invariant-loop-index
invariant-loop-index l = record {
  wrongs : later l.initial.found (items_from entry l.path 0 (items_in l.items))
      ≡ later l.found (items_from entry l.path l.index (items_in (drop l.index l.items)));
  entries : each_of entry_of (items_in l.items) ≡ l.all ++ each_of entry_of (items_in (drop l.index l.items));
}
