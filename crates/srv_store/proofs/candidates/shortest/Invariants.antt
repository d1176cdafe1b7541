-- The best place so far is one of those that were looked at.
use Rattle.std.proofs.Common.{◌<◌}
use Rattle.srv_store.proofs.candidates.shortest.Given as goal

abbrev pub invariant-loop-place : goal.invariant-loop-place
invariant-loop-place l = l.best < l.place
