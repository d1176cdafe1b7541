-- Those found so far.
use Rattle.std.proofs.Common.{◌≡◌, take}
use Rattle.op_base.specs.Maps.{keys_of}
use Rattle.srv_run.specs.Shares as spec
use Rattle.srv_run.proofs.reports.failed_elsewhere.Given as goal

abbrev pub invariant-loop-rule : goal.invariant-loop-rule
invariant-loop-rule l = l.rules ≡ spec.failed_elsewhere (keys_of l.known) (take l.rule-index l.failed)
