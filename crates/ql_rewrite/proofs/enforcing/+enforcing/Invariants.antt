use Rattle.std.proofs.Common.{◌≡◌, ◌++◌, map}
use Rattle.std.specs.Vec.Iter.{into_iter_items}
use Rattle.ql_tree.specs.Enforced.{enforced}
use Rattle.ql_rewrite.proofs.enforcing.+enforcing.Given as goal

abbrev pub invariant-in_all-loop-expr : goal.invariant-in_all-loop-expr
invariant-in_all-loop-expr l =
    map (enforced l.name l.value) (into_iter_items l.initial.expr-iterator)
    ≡ l.changed ++ map (enforced l.name l.value) (into_iter_items l.expr-iterator)
