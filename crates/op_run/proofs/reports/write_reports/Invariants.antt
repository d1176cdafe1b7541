use Rattle.std.proofs.Common.{◌≤◌, drop}
use Rattle.op_report.specs.ReadBack.{AreNamed}
use Rattle.op_run.proofs.ReportLemmas.{Written}
use Rattle.op_run.proofs.reports.write_reports.Given as goal

abbrev pub invariant-loop-report : goal.invariant-loop-report
invariant-loop-report g l = record {
  written : Written l.reports (g.O.Sink.taken l.initial.sink) (g.O.Sink.taken l.sink) (drop l.report-index l.reports) l.good;
  named : AreNamed (drop l.report-index l.reports);
  later : g.O.Sink.faults l.initial.sink ≤ g.O.Sink.faults l.sink;
}
