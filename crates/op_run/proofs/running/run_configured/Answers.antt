use Rattle.std.proofs.Common.{◌∙◌, ◌++◌, ◌∷◌, [], Err, subst}
use Rattle.op_edges.specs.Lines.{shown_lines, newline}
use Rattle.op_edges.specs.Told.{Told}
use Rattle.op_edges.proofs.ToldLemmas.{told_same}
use Rattle.op_report.specs.ReadBack.{report_bytes}
use Rattle.cfg_types.specs.Written.{config_text}
use Rattle.op_thin.specs.Compiled.{config_of}
use Rattle.srv_run.specs.Served.{Serving}
use Rattle.op_run.specs.declared.stop.Stop.TheVariants.{Memory}
use Rattle.op_run.specs.InputRuns.{InputRan}
use Rattle.op_run.specs.Lines.{all_said}
use Rattle.op_run.specs.WellAnswered.{all_well}
use Rattle.op_run.proofs.InputRunLemmas.{none_ran, memory_causes}
use Rattle.op_run.proofs.running.run_configured.Goals as goal

pub returns-in-Ok-clause-ran : goal.returns-in-Ok-clause-ran
returns-in-Ok-clause-ran g c =
    subst (λ text. Told (g.S.Source.left c.args.input.now) (g.S.Source.left c.run_loaded.new.input) (λ bytes after.
    InputRan c.run_loaded.result (report_bytes (all_said (config_of c.args.objects) c.args.server.now.served 0 (shown_lines bytes)) ++ text)
    (all_well (all_said (config_of c.args.objects) c.args.server.now.served 0 (shown_lines bytes)))
    (g.O.Sink.taken c.args.out.now) (g.O.Sink.taken c.run_loaded.new.out) bytes after)) (c.as_slice.ensures ∙ c.in-Ok.ensures.text)
    (subst (λ (server : Serving). Told (g.S.Source.left c.args.input.now) (g.S.Source.left c.run_loaded.new.input) (λ bytes after.
    InputRan c.run_loaded.result (report_bytes (all_said server.config server.served 0 (shown_lines bytes)) ++ c.as_slice.result.now)
    (all_well (all_said server.config server.served 0 (shown_lines bytes)))
    (g.O.Sink.taken c.args.out.now) (g.O.Sink.taken c.run_loaded.new.out) bytes after)) c.in-Ok.ensures.server
    c.run_loaded.ensures.ran)

pub returns-in-Ok-clause-causes : goal.returns-in-Ok-clause-causes
returns-in-Ok-clause-causes g c = c.run_loaded.ensures.causes

pub returns-in-Err-clause-ran : goal.returns-in-Err-clause-ran
returns-in-Err-clause-ran g c = told_same (g.S.Source.left c.args.input.now)
    (λ bytes after. InputRan (Err Memory)
    (report_bytes (all_said (config_of c.args.objects) c.args.server.now.served 0 (shown_lines bytes)) ++ (config_text (config_of c.args.objects) ++ newline ∷ []))
    (all_well (all_said (config_of c.args.objects) c.args.server.now.served 0 (shown_lines bytes)))
    (g.O.Sink.taken c.args.out.now) (g.O.Sink.taken c.args.out.now) bytes after)
    (λ bytes. none_ran
    (report_bytes (all_said (config_of c.args.objects) c.args.server.now.served 0 (shown_lines bytes)) ++ (config_text (config_of c.args.objects) ++ newline ∷ []))
    (all_well (all_said (config_of c.args.objects) c.args.server.now.served 0 (shown_lines bytes)))
    (g.O.Sink.taken c.args.out.now) bytes)

pub returns-in-Err-clause-causes : goal.returns-in-Err-clause-causes
returns-in-Err-clause-causes g c = memory_causes (g.S.Source.faults c.args.input.now) (g.O.Sink.faults c.args.out.now)
