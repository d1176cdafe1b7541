use Rattle.std.proofs.Common.{◌≡◌, ◌++◌, drop, codes, if◌then◌else◌}
use Rattle.std.specs.List.{flat_map, join_by}
use Rattle.ql_tree.specs.Pieces.{text_of}
use Rattle.ql_tree.specs.PrintedParts.{matcher_pieces}
use Rattle.ql_rewrite.proofs.selectors.push_listed_matchers.Given as goal

abbrev pub invariant-loop-m : goal.invariant-loop-m
invariant-loop-m l =
    l.initial.text ++ join_by (λ m. text_of (matcher_pieces m)) (codes ",") l.matchers
    ≡ l.text ++ (if l.behind then flat_map (λ m. codes "," ++ text_of (matcher_pieces m)) (drop l.m-index l.matchers)
    else join_by (λ m. text_of (matcher_pieces m)) (codes ",") (drop l.m-index l.matchers))
