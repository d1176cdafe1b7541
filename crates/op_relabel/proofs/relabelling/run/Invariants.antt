use Rattle.std.proofs.Common.{◌≡◌, drop}
use Rattle.op_relabel.specs.Relabelled.{relabelled}
use Rattle.op_relabel.proofs.relabelling.run.Given as goal

abbrev pub invariant-loop-step : goal.invariant-loop-step
invariant-loop-step l = relabelled (drop l.step-index l.steps) l.current ≡ relabelled l.steps l.fn.labels
