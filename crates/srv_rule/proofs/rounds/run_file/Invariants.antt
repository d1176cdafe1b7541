-- The rules of the groups so far ran.
use Rattle.std.proofs.Common.{drop}
use Rattle.srv_store.specs.Stores.{Store}
use Rattle.srv_rule.specs.Rounds as spec
use Rattle.srv_rule.specs.Running.{IsBehind}
use Rattle.srv_rule.proofs.RunLemmas.{Runs, placed_under}
use Rattle.srv_rule.proofs.rounds.run_file.Given as goal

abbrev pub invariant-loop-group : goal.invariant-loop-group
invariant-loop-group l =
    Runs l.t l.before (spec.ran_of l.initial.store l.initial.progress.states l.initial.progress.failed) (spec.ran_of l.store l.progress.states l.progress.failed)
    (spec.placed_in l.file) (placed_under l.file (drop l.group-index l.file.groups)) ×
    ((base : Store) → IsBehind base l.initial.store l.initial.progress → IsBehind base l.store l.progress)
