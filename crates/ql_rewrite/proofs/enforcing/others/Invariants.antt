use Rattle.std.proofs.Common.{◌≡◌, ◌++◌, not}
use Rattle.std.specs.List.{filter}
use Rattle.std.specs.Vec.Iter.{into_iter_items}
use Rattle.ql_tree.specs.Enforced.{is_on}
use Rattle.ql_rewrite.proofs.enforcing.others.Given as goal

abbrev pub invariant-loop-m : goal.invariant-loop-m
invariant-loop-m l =
    filter (λ m. not (is_on l.name m)) (into_iter_items l.initial.m-iterator)
    ≡ l.kept ++ filter (λ m. not (is_on l.name m)) (into_iter_items l.m-iterator)
