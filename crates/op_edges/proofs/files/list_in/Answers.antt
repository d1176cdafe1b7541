use Rattle.std.proofs.Common.{[]}
use Rattle.std.specs.List.Sorted.{IsStrictlySortedBy}
use Rattle.op_edges.specs.Folders.{AreInOrder}
use Rattle.op_edges.proofs.files.list_in.Goals as goal

empty_in_order : AreInOrder []
unfolding IsStrictlySortedBy
empty_in_order = tt

pub returns-in-None-clause-order : goal.returns-in-None-clause-order
returns-in-None-clause-order c = rw c.new.ensures empty_in_order
