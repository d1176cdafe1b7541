-- The copies so far.
use Rattle.std.proofs.Common.{◌≡◌, take}
use Rattle.srv_run.proofs.server.copy_samples.Given as goal

abbrev pub invariant-loop-sample : goal.invariant-loop-sample
invariant-loop-sample l = l.copy ≡ take l.sample-index l.samples
