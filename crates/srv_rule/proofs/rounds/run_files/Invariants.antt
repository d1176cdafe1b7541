-- The rules of the files so far ran.
use Rattle.std.proofs.Common.{drop}
use Rattle.srv_store.specs.Stores.{Store}
use Rattle.srv_rule.specs.Rounds as spec
use Rattle.srv_rule.specs.Running.{IsBehind}
use Rattle.srv_rule.proofs.RunLemmas.{Runs}
use Rattle.srv_rule.proofs.rounds.run_files.Given as goal

abbrev pub invariant-loop-file : goal.invariant-loop-file
invariant-loop-file l =
    Runs l.t l.before (spec.ran_of l.initial.store l.initial.progress.states l.initial.progress.failed) (spec.ran_of l.store l.progress.states l.progress.failed)
    (spec.placed_of l.files) (spec.placed_of (drop l.file-index l.files)) ×
    ((base : Store) → IsBehind base l.initial.store l.initial.progress → IsBehind base l.store l.progress)
