use Rattle.std.proofs.Common.{◌≡◌, ◌+◌, ◌*◌, map, take, false}
use Rattle.std.specs.List.{list_any}
use Rattle.ql_tree.specs.Children.{depth_of, greatest}
use Rattle.op_thin.specs.Nameless.{has_nameless}
use Rattle.op_thin.proofs.judged.+looking.Given as goal

abbrev pub invariant-any_nameless-loop-expr : goal.invariant-any_nameless-loop-expr
invariant-any_nameless-loop-expr l = list_any has_nameless (take l.expr-index l.exprs) ≡ false
