-- The rules so far ran.
use Rattle.std.proofs.Common.{◌≡◌, drop}
use Rattle.srv_store.specs.Stores.{Store}
use Rattle.srv_rule.specs.Rounds as spec
use Rattle.srv_rule.specs.Running.{IsBehind}
use Rattle.srv_rule.proofs.RunLemmas.{Runs}
use Rattle.srv_rule.proofs.rounds.run_group.Given as goal

abbrev pub invariant-loop-rule : goal.invariant-loop-rule
invariant-loop-rule l =
    (l.index ≡ l.rule-index) ×
    Runs l.t l.before (spec.ran_of l.initial.store l.initial.progress.states l.initial.progress.failed) (spec.ran_of l.store l.progress.states l.progress.failed)
    (spec.placed_from l.file l.group.name 0 l.group.rules) (spec.placed_from l.file l.group.name l.rule-index (drop l.rule-index l.group.rules)) ×
    ((base : Store) → IsBehind base l.initial.store l.initial.progress → IsBehind base l.store l.progress)
