use Rattle.std.proofs.Common.{◌≡◌, take, []}
use Rattle.std.specs.List.{filter, flat_map}
use Rattle.ql_tree.specs.Enforced.{conflicts, matchers_of}
use Rattle.ql_rewrite.proofs.conflicts.+finding.Given as goal

abbrev pub invariant-first_below-loop-expr : goal.invariant-first_below-loop-expr
invariant-first_below-loop-expr l = filter (conflicts l.name l.value) (flat_map matchers_of (take l.expr-index l.exprs)) ≡ []
