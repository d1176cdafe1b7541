use Rattle.std.proofs.Common.{Err, subst}
use Rattle.op_edges.specs.Told.{Told}
use Rattle.op_edges.proofs.ToldLemmas.{told_same}
use Rattle.tenant_world.specs.Runs.{run}
use Rattle.op_run.specs.declared.stop.Stop.TheVariants.{Memory}
use Rattle.op_run.specs.InputRuns.{InputRan}
use Rattle.op_run.specs.Inputs.{events_of}
use Rattle.op_run.specs.Outputs.{run_reports, run_text, run_text_after}
use Rattle.op_run.specs.WellAnswered.{all_well}
use Rattle.op_run.proofs.InputRunLemmas.{none_ran, memory_causes}
use Rattle.op_run.proofs.WholeRunLemmas.{begins}
use Rattle.op_run.proofs.running.files_and_input.Goals as goal

pub returns-in-Ok-clause-ran : goal.returns-in-Ok-clause-ran
returns-in-Ok-clause-ran g c = subst
    (λ w. Told (g.S.Source.left c.args.input.now) (g.S.Source.left c.run_after.new.input) (λ bytes after. InputRan c.run_after.result
    (run_text_after w c.args.files.now bytes) (all_well (run w (events_of c.args.files.now bytes)))
    (g.O.Sink.taken c.args.out.now) (g.O.Sink.taken c.run_after.new.out) bytes after))
    (begins c.new-objects.result c.in-Ok.server c.new-objects.ensures c.in-Ok.ensures) c.run_after.ensures.ran

pub returns-in-Ok-clause-causes : goal.returns-in-Ok-clause-causes
returns-in-Ok-clause-causes g c = c.run_after.ensures.causes

pub returns-in-Err-clause-ran : goal.returns-in-Err-clause-ran
returns-in-Err-clause-ran g c = told_same (g.S.Source.left c.args.input.now)
    (λ bytes after. InputRan (Err Memory) (run_text c.args.files.now bytes) (all_well (run_reports c.args.files.now bytes))
    (g.O.Sink.taken c.args.out.now) (g.O.Sink.taken c.args.out.now) bytes after)
    (λ bytes. none_ran (run_text c.args.files.now bytes) (all_well (run_reports c.args.files.now bytes)) (g.O.Sink.taken c.args.out.now) bytes)

pub returns-in-Err-clause-causes : goal.returns-in-Err-clause-causes
returns-in-Err-clause-causes g c = memory_causes (g.S.Source.faults c.args.input.now) (g.O.Sink.faults c.args.out.now)
