-- What was prepared so far are the first steps.
use Rattle.std.proofs.Common.{◌≡◌, take}
use Rattle.op_relabel.proofs.prepared.all_prepared.Given as goal

abbrev pub invariant-loop-step : goal.invariant-loop-step
invariant-loop-step l = l.all ≡ take l.step-index l.steps
