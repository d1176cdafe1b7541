-- The store stays.
use Rattle.std.proofs.Common.{◌≡◌}
use Rattle.srv_run.proofs.loading.read_in_rules.Given as goal

abbrev pub invariant-loop-rule : goal.invariant-loop-rule
invariant-loop-rule l = l.store ≡ l.initial.store
