-- The lines so far.
use Rattle.std.proofs.Common.{◌≡◌, map, take}
use Rattle.srv_run.specs.Ticking.{shared_line}
use Rattle.srv_run.proofs.reports.shared_reports.Given as goal

abbrev pub invariant-loop-name : goal.invariant-loop-name
invariant-loop-name l = l.reports ≡ map (shared_line l.rules l.entries l.t) (take l.name-index l.names)
