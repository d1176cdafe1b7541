use Rattle.std.proofs.Common.{◌-◌, length}
use Rattle.ql_tree.specs.Children.{depth_of}
use Rattle.ql_tree.proofs.VerdictLemmas.{AreShapes, children}
use Rattle.ql_tree.proofs.typing.+shape.Given as goal

abbrev pub decreases-shape : goal.decreases-shape
decreases-shape l = depth_of l.expr.now

abbrev pub invariant-loop-next : goal.invariant-loop-next
invariant-loop-next l = AreShapes l.shapes (children l.expr)

abbrev pub decreases-loop-next : goal.decreases-loop-next
decreases-loop-next l = length (children l.expr) - length l.shapes
