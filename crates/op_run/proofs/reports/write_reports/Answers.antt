use Rattle.std.proofs.Common.{◌+◌, drop, subst, arith}
use Rattle.op_report.specs.ReadBack.{AreNamed}
use Rattle.op_run.proofs.ReportLemmas.{next_of, written_next, written_into}
use Rattle.op_run.proofs.reports.write_reports.Goals as goal

pub returns-in-Err-clause-prefix : goal.returns-in-Err-clause-prefix
returns-in-Err-clause-prefix g c = written_into c.args.reports.now (g.O.Sink.taken c.args.sink.now) (g.O.Sink.taken c.loop-report.sink) (g.O.Sink.taken c.write_report.new.sink)
    c.report-item.result (drop (c.loop-report.report-index + 1) c.args.reports.now) (drop c.loop-report.report-index c.args.reports.now) c.loop-report.good
    (next_of c.args.reports.now c.loop-report.report-index c.report-item.result c.loop-report-test.true c.report-item.is)
    c.loop-report.invariant.written c.in-Err.ensures.prefix

pub loop-report-preserved : goal.loop-report-preserved
loop-report-preserved g c =
    let next = next_of c.args.reports.now c.loop-report.report-index c.report-item.result c.loop-report-test.true c.report-item.is in
    record {
      written = written_next c.args.reports.now (g.O.Sink.taken c.args.sink.now) (g.O.Sink.taken c.loop-report.sink) (g.O.Sink.taken c.write_report.new.sink)
          c.report-item.result (drop (c.loop-report.report-index + 1) c.args.reports.now) (drop c.loop-report.report-index c.args.reports.now)
          c.loop-report.good c.in-Ok.well c.both-good.result next c.loop-report.invariant.written c.in-Ok.ensures.line c.in-Ok.ensures.good c.both-good.ensures;
      named = (subst AreNamed next c.loop-report.invariant.named).1;
      later = omega (arith, c.loop-report.invariant.later, c.in-Ok.ensures.later);
    }
