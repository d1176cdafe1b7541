-- The store stays.
use Rattle.std.proofs.Common.{◌≡◌}
use Rattle.srv_run.proofs.loading.read_in_groups.Given as goal

abbrev pub invariant-loop-group : goal.invariant-loop-group
invariant-loop-group l = l.store ≡ l.initial.store
