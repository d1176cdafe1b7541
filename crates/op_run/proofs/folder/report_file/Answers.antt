use Rattle.std.proofs.Common.{OnErr, [], ◌∷◌, sym, subst, append-nil}
use Rattle.op_edges.specs.Streams.{AppendsPrefix}
use Rattle.op_report.specs.Lines.{report_line}
use Rattle.op_report.specs.ReadBack.{report_bytes}
use Rattle.op_run.proofs.folder.report_file.Goals as goal

pub returns-in-Ok-clause-prefix : goal.returns-in-Ok-clause-prefix
returns-in-Ok-clause-prefix g c = subst
    (λ report. OnErr c.write_report.result (AppendsPrefix (g.O.Sink.taken c.args.sink.now) (g.O.Sink.taken c.write_report.new.sink) (report_bytes (report ∷ []))))
    c.in-Ok.ensures.report
    (subst (λ bytes. OnErr c.write_report.result (AppendsPrefix (g.O.Sink.taken c.args.sink.now) (g.O.Sink.taken c.write_report.new.sink) bytes))
    (sym (append-nil (report_line c.in-Ok.report))) c.write_report.ensures.prefix)
