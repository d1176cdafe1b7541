use Rattle.std.proofs.Common.{◌≡◌, ◌++◌, drop}
use Rattle.op_manifest.specs.Trees.{items_in}
use Rattle.op_manifest.specs.Shapes.{later}
use Rattle.op_manifest.specs.Checks.{items_from}
use Rattle.op_manifest.specs.Values.{each_of}
use Rattle.op_manifest.specs.Routes.{receiver, receiver_of}
use Rattle.op_manifest.proofs.receiver.each_receiver.Given as goal

-- what is left gives the rest of the breaches and of the items
abbrev pub invariant-loop-index : goal.invariant-loop-index
invariant-loop-index l = record {
  wrongs : later l.initial.found (items_from (receiver l.base) l.path 0 (items_in l.items))
      ≡ later l.found (items_from (receiver l.base) l.path l.index (items_in (drop l.index l.items)));
  items : each_of (receiver_of l.base) (items_in l.items) ≡ l.all ++ each_of (receiver_of l.base) (items_in (drop l.index l.items));
}
