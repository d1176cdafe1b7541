-- The parts so far.
use Rattle.std.proofs.Common.{◌≡◌, map, take}
use Rattle.srv_run.specs.Shares as spec
use Rattle.srv_run.proofs.reports.failed_parts.Given as goal

abbrev pub invariant-loop-rule : goal.invariant-loop-rule
invariant-loop-rule l = l.parts ≡ map spec.failed_parts (take l.rule-index l.failed)
