use Rattle.std.proofs.Common.{◌≡◌, ◌++◌, drop, codes, if◌then◌else◌}
use Rattle.std.specs.List.{flat_map, join_by}
use Rattle.ql_rewrite.proofs.clauses.push_listed_labels.Given as goal

abbrev pub invariant-loop-label : goal.invariant-loop-label
invariant-loop-label l =
    l.initial.text ++ join_by (λ label. label) (codes ", ") l.labels
    ≡ l.text ++ (if l.behind then flat_map (λ label. codes ", " ++ label) (drop l.label-index l.labels)
    else join_by (λ label. label) (codes ", ") (drop l.label-index l.labels))
