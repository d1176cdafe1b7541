-- The groups so far, with what the others and the trees behind give, are all.
use Rattle.std.proofs.Common.{◌≡◌, ◌++◌, drop}
use Rattle.std.specs.Option.{option_copied}
use Rattle.gen_rules.specs.RuleFiles as spec
use Rattle.gen_rules.proofs.rule_files.groups_of.Given as goal

abbrev pub invariant-loop-group : goal.invariant-loop-group
invariant-loop-group l =
    spec.groups_of (option_copied l.enforced) l.namespace l.groups l.trees
    ≡ l.made ++ spec.groups_of (option_copied l.enforced) l.namespace (drop l.group-index l.groups) l.rest
