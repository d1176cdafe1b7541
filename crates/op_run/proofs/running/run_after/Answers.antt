use Rattle.std.proofs.Common.{◌++◌, ◌∷◌, [], Ok, Err}
use Rattle.op_edges.specs.Lines.{shown_lines, newline}
use Rattle.op_edges.proofs.ToldLemmas.{told_so, told_same}
use Rattle.op_report.specs.ReadBack.{report_bytes}
use Rattle.cfg_types.specs.Written.{config_text}
use Rattle.op_thin.specs.Compiled.{config_of}
use Rattle.tenant_world.specs.Runs.{run}
use Rattle.op_run.specs.InputRuns.{InputRan}
use Rattle.op_run.specs.Inputs.{events_of}
use Rattle.op_run.specs.Lines.{all_said}
use Rattle.op_run.specs.Outputs.{run_text_after}
use Rattle.op_run.specs.WellAnswered.{all_well}
use Rattle.op_run.specs.Worlds.{world}
use Rattle.op_run.proofs.InputRunLemmas.{before_causes, both_causes, writing_causes}
use Rattle.op_run.proofs.WholeRunLemmas.{whole_ran, part_ran, files_stop}
use Rattle.op_run.proofs.running.run_after.Goals as goal

pub returns-in-Ok-run_configured-clause-ran : goal.returns-in-Ok-run_configured-clause-ran
returns-in-Ok-run_configured-clause-ran g c =
    let start = world c.args.objects c.args.server.now.served in
    told_so (g.S.Source.left c.args.input.now) (g.S.Source.left c.run_configured.new.input)
    (λ bytes after. InputRan (Ok c.in-Ok-run_configured.well)
    (report_bytes (all_said (config_of c.report_files.new.objects) c.report_files.new.server.served 0 (shown_lines bytes))
    ++ (config_text (config_of c.report_files.new.objects) ++ newline ∷ []))
    (all_well (all_said (config_of c.report_files.new.objects) c.report_files.new.server.served 0 (shown_lines bytes)))
    (g.O.Sink.taken c.report_files.new.sink) (g.O.Sink.taken c.run_configured.new.out) bytes after)
    (λ bytes after. InputRan (Ok c.both.result) (run_text_after (world c.args.objects c.args.server.now.served) c.args.files.now bytes) (all_well (run (world c.args.objects c.args.server.now.served) (events_of c.args.files.now bytes)))
    (g.O.Sink.taken c.args.out.now) (g.O.Sink.taken c.run_configured.new.out) bytes after)
    (λ bytes after ran. whole_ran start c.args.files.now bytes c.report_files.new.objects c.report_files.new.server.served
    c.in-Ok.ensures.world
    (g.O.Sink.taken c.args.out.now) (g.O.Sink.taken c.report_files.new.sink) (g.O.Sink.taken c.run_configured.new.out) after
    c.in-Ok.ensures.lines c.in-Ok.good c.in-Ok-run_configured.well c.both.result
    c.in-Ok.ensures.good c.both.ensures ran)
    c.in-Ok-run_configured.ensures.ran

pub returns-in-Ok-run_configured-clause-causes : goal.returns-in-Ok-run_configured-clause-causes
returns-in-Ok-run_configured-clause-causes g c = before_causes (Ok c.both.result) (g.S.Source.faults c.args.input.now) (g.S.Source.faults c.run_configured.new.input)
    (g.O.Sink.faults c.args.out.now) (g.O.Sink.faults c.report_files.new.sink) (g.O.Sink.faults c.run_configured.new.out)
    c.in-Ok.ensures.later
    (both_causes c.in-Ok-run_configured.well c.both.result (g.S.Source.faults c.args.input.now) (g.S.Source.faults c.run_configured.new.input)
    (g.O.Sink.faults c.report_files.new.sink) (g.O.Sink.faults c.run_configured.new.out) c.in-Ok-run_configured.ensures.causes)

pub returns-in-Err-run_configured-clause-ran : goal.returns-in-Err-run_configured-clause-ran
returns-in-Err-run_configured-clause-ran g c =
    let start = world c.args.objects c.args.server.now.served in
    told_so (g.S.Source.left c.args.input.now) (g.S.Source.left c.run_configured.new.input)
    (λ bytes after. InputRan (Err c.in-Err-run_configured.stop)
    (report_bytes (all_said (config_of c.report_files.new.objects) c.report_files.new.server.served 0 (shown_lines bytes))
    ++ (config_text (config_of c.report_files.new.objects) ++ newline ∷ []))
    (all_well (all_said (config_of c.report_files.new.objects) c.report_files.new.server.served 0 (shown_lines bytes)))
    (g.O.Sink.taken c.report_files.new.sink) (g.O.Sink.taken c.run_configured.new.out) bytes after)
    (λ bytes after. InputRan (Err c.in-Err-run_configured.stop) (run_text_after (world c.args.objects c.args.server.now.served) c.args.files.now bytes) (all_well (run (world c.args.objects c.args.server.now.served) (events_of c.args.files.now bytes)))
    (g.O.Sink.taken c.args.out.now) (g.O.Sink.taken c.run_configured.new.out) bytes after)
    (λ bytes after ran. part_ran start c.args.files.now bytes c.report_files.new.objects c.report_files.new.server.served
    c.in-Ok.ensures.world
    (g.O.Sink.taken c.args.out.now) (g.O.Sink.taken c.report_files.new.sink) (g.O.Sink.taken c.run_configured.new.out) after
    c.in-Ok.ensures.lines c.in-Err-run_configured.stop ran)
    c.in-Err-run_configured.ensures.ran

pub returns-in-Err-run_configured-clause-causes : goal.returns-in-Err-run_configured-clause-causes
returns-in-Err-run_configured-clause-causes g c = before_causes (Err c.in-Err-run_configured.stop)
    (g.S.Source.faults c.args.input.now) (g.S.Source.faults c.run_configured.new.input)
    (g.O.Sink.faults c.args.out.now) (g.O.Sink.faults c.report_files.new.sink) (g.O.Sink.faults c.run_configured.new.out)
    c.in-Ok.ensures.later c.in-Err-run_configured.ensures.causes

pub returns-in-Err-clause-ran : goal.returns-in-Err-clause-ran
returns-in-Err-clause-ran g c =
    let start = world c.args.objects c.args.server.now.served in
    told_same (g.S.Source.left c.args.input.now)
    (λ bytes after. InputRan (Err c.in-Err.stop) (run_text_after (world c.args.objects c.args.server.now.served) c.args.files.now bytes) (all_well (run (world c.args.objects c.args.server.now.served) (events_of c.args.files.now bytes)))
    (g.O.Sink.taken c.args.out.now) (g.O.Sink.taken c.report_files.new.sink) bytes after)
    (λ bytes. files_stop start c.args.files.now bytes (g.O.Sink.taken c.args.out.now) (g.O.Sink.taken c.report_files.new.sink) c.in-Err.stop
    c.in-Err.ensures.prefix c.in-Err.ensures.kinds)

pub returns-in-Err-clause-causes : goal.returns-in-Err-clause-causes
returns-in-Err-clause-causes g c = writing_causes c.in-Err.stop (g.S.Source.faults c.args.input.now)
    (g.O.Sink.faults c.args.out.now) (g.O.Sink.faults c.report_files.new.sink)
    c.in-Err.ensures.kinds c.in-Err.ensures.failed c.in-Err.ensures.later
