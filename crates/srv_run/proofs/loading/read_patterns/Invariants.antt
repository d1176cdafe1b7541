-- The store stays.
use Rattle.std.proofs.Common.{◌≡◌}
use Rattle.srv_run.proofs.loading.read_patterns.Given as goal

abbrev pub invariant-loop-file : goal.invariant-loop-file
invariant-loop-file l = l.store ≡ l.initial.store
