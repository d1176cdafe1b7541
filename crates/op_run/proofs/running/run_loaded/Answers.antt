use Rattle.std.proofs.Common.{◌++◌, Ok, Err}
use Rattle.op_edges.specs.Lines.{shown_lines}
use Rattle.op_edges.proofs.ToldLemmas.{told_so}
use Rattle.op_report.specs.ReadBack.{report_bytes}
use Rattle.op_run.specs.declared.stop.Stop.TheVariants.{Output}
use Rattle.op_run.specs.InputRuns.{InputRan}
use Rattle.op_run.specs.Lines.{all_said}
use Rattle.op_run.specs.WellAnswered.{all_well}
use Rattle.op_run.proofs.InputRunLemmas.{then_whole, then_part, then_none, then_causes, fail_causes}
use Rattle.op_run.proofs.running.run_loaded.Goals as goal

pub returns-in-Ok-put_all-clause-ran : goal.returns-in-Ok-put_all-clause-ran
returns-in-Ok-put_all-clause-ran g c = told_so (g.S.Source.left c.args.input.now) (g.S.Source.left c.run_lines.new.source)
    (λ bytes after. InputRan (Ok c.in-Ok.good) (report_bytes (all_said c.args.server.now.config c.args.server.now.served 0 (shown_lines bytes)))
    (all_well (all_said c.args.server.now.config c.args.server.now.served 0 (shown_lines bytes))) (g.O.Sink.taken c.args.out.now) (g.O.Sink.taken c.run_lines.new.sink) bytes after)
    (λ bytes after. InputRan (Ok c.in-Ok.good) (report_bytes (all_said c.args.server.now.config c.args.server.now.served 0 (shown_lines bytes)) ++ c.args.text.now)
    (all_well (all_said c.args.server.now.config c.args.server.now.served 0 (shown_lines bytes))) (g.O.Sink.taken c.args.out.now) (g.O.Sink.taken c.put_all.new.sink) bytes after)
    (λ bytes after ran. then_whole (report_bytes (all_said c.args.server.now.config c.args.server.now.served 0 (shown_lines bytes))) c.args.text.now
    (all_well (all_said c.args.server.now.config c.args.server.now.served 0 (shown_lines bytes))) c.in-Ok.good
    (g.O.Sink.taken c.args.out.now) (g.O.Sink.taken c.run_lines.new.sink) (g.O.Sink.taken c.put_all.new.sink) bytes after ran c.in-Ok-put_all.ensures.ok)
    c.in-Ok.ensures.ran

pub returns-in-Ok-put_all-clause-causes : goal.returns-in-Ok-put_all-clause-causes
returns-in-Ok-put_all-clause-causes g c = then_causes c.in-Ok.good (g.S.Source.faults c.args.input.now) (g.S.Source.faults c.run_lines.new.source)
    (g.O.Sink.faults c.args.out.now) (g.O.Sink.faults c.run_lines.new.sink) (g.O.Sink.faults c.put_all.new.sink)
    c.in-Ok.ensures.causes c.in-Ok-put_all.ensures.later

pub returns-in-Err-put_all-clause-ran : goal.returns-in-Err-put_all-clause-ran
returns-in-Err-put_all-clause-ran g c = told_so (g.S.Source.left c.args.input.now) (g.S.Source.left c.run_lines.new.source)
    (λ bytes after. InputRan (Ok c.in-Ok.good) (report_bytes (all_said c.args.server.now.config c.args.server.now.served 0 (shown_lines bytes)))
    (all_well (all_said c.args.server.now.config c.args.server.now.served 0 (shown_lines bytes))) (g.O.Sink.taken c.args.out.now) (g.O.Sink.taken c.run_lines.new.sink) bytes after)
    (λ bytes after. InputRan (Err Output) (report_bytes (all_said c.args.server.now.config c.args.server.now.served 0 (shown_lines bytes)) ++ c.args.text.now)
    (all_well (all_said c.args.server.now.config c.args.server.now.served 0 (shown_lines bytes))) (g.O.Sink.taken c.args.out.now) (g.O.Sink.taken c.put_all.new.sink) bytes after)
    (λ bytes after ran. then_part (report_bytes (all_said c.args.server.now.config c.args.server.now.served 0 (shown_lines bytes))) c.args.text.now
    (all_well (all_said c.args.server.now.config c.args.server.now.served 0 (shown_lines bytes))) c.in-Ok.good
    (g.O.Sink.taken c.args.out.now) (g.O.Sink.taken c.run_lines.new.sink) (g.O.Sink.taken c.put_all.new.sink) bytes after ran c.in-Err-put_all.ensures.prefix)
    c.in-Ok.ensures.ran

pub returns-in-Err-put_all-clause-causes : goal.returns-in-Err-put_all-clause-causes
returns-in-Err-put_all-clause-causes g c = fail_causes c.in-Ok.good (g.S.Source.faults c.args.input.now) (g.S.Source.faults c.run_lines.new.source)
    (g.O.Sink.faults c.args.out.now) (g.O.Sink.faults c.run_lines.new.sink) (g.O.Sink.faults c.put_all.new.sink)
    c.in-Ok.ensures.causes c.in-Err-put_all.ensures.later c.in-Err-put_all.ensures.failed

pub returns-in-Err-clause-ran : goal.returns-in-Err-clause-ran
returns-in-Err-clause-ran g c = told_so (g.S.Source.left c.args.input.now) (g.S.Source.left c.run_lines.new.source)
    (λ bytes after. InputRan (Err c.in-Err.stop) (report_bytes (all_said c.args.server.now.config c.args.server.now.served 0 (shown_lines bytes)))
    (all_well (all_said c.args.server.now.config c.args.server.now.served 0 (shown_lines bytes))) (g.O.Sink.taken c.args.out.now) (g.O.Sink.taken c.run_lines.new.sink) bytes after)
    (λ bytes after. InputRan (Err c.in-Err.stop) (report_bytes (all_said c.args.server.now.config c.args.server.now.served 0 (shown_lines bytes)) ++ c.args.text.now)
    (all_well (all_said c.args.server.now.config c.args.server.now.served 0 (shown_lines bytes))) (g.O.Sink.taken c.args.out.now) (g.O.Sink.taken c.run_lines.new.sink) bytes after)
    (λ bytes after ran. then_none (report_bytes (all_said c.args.server.now.config c.args.server.now.served 0 (shown_lines bytes))) c.args.text.now
    (all_well (all_said c.args.server.now.config c.args.server.now.served 0 (shown_lines bytes))) c.in-Err.stop
    (g.O.Sink.taken c.args.out.now) (g.O.Sink.taken c.run_lines.new.sink) bytes after ran)
    c.in-Err.ensures.ran

pub returns-in-Err-clause-causes : goal.returns-in-Err-clause-causes
returns-in-Err-clause-causes g c = c.in-Err.ensures.causes
