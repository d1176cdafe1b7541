use Rattle.std.proofs.Common.{◌≡◌, ◌++◌, map, drop, codes, if◌then◌else◌}
use Rattle.std.specs.List.{flat_map, join_by}
use Rattle.ql_tree.specs.Pieces.{text_of}
use Rattle.ql_tree.specs.Printed.{pieces_of}
use Rattle.ql_rewrite.proofs.printing.+printing.Given as goal

abbrev pub invariant-push_listed-loop-expr : goal.invariant-push_listed-loop-expr
invariant-push_listed-loop-expr l =
    l.initial.text ++ (if l.initial.more then flat_map (λ p. codes ", " ++ text_of p.1) (map pieces_of l.exprs)
    else join_by (λ p. text_of p.1) (codes ", ") (map pieces_of l.exprs))
    ≡ l.text ++ (if l.more then flat_map (λ p. codes ", " ++ text_of p.1) (map pieces_of (drop l.expr-index l.exprs))
    else join_by (λ p. text_of p.1) (codes ", ") (map pieces_of (drop l.expr-index l.exprs)))
