-- Those found so far.
use Rattle.std.proofs.Common.{◌≡◌, take}
use Rattle.op_base.specs.Maps.{keys_of}
use Rattle.srv_run.specs.Shares as spec
use Rattle.srv_run.proofs.reports.homeless.Given as goal

abbrev pub invariant-loop-entry : goal.invariant-loop-entry
invariant-loop-entry l = l.entries ≡ spec.homeless (keys_of l.known) (take l.entry-index l.added)
