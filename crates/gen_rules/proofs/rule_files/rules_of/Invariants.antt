-- The rules so far are those of the pairs so far.
use Rattle.std.proofs.Common.{◌≡◌, map}
use Rattle.std.specs.Option.{option_copied}
use Rattle.gen_rules.specs.RuleFiles as spec
use Rattle.gen_rules.proofs.rule_files.rules_of.Given as goal

abbrev pub invariant-loop-rule : goal.invariant-loop-rule
invariant-loop-rule l =
    l.made ≡ map (λ pair. spec.rule_of (option_copied l.enforced) l.namespace (pair.0.now, pair.1.now)) l.yielded
