use Rattle.op_report.specs.ReadBack.{report_bytes}
use Rattle.tenant_world.specs.Runs.{run}
use Rattle.op_run.specs.Inputs.{file_events}
use Rattle.op_run.specs.Worlds.{world}
use Rattle.op_run.proofs.ReportLemmas.{all_are_prefix}
use Rattle.op_run.proofs.compiling.compile_after.Goals as goal

pub returns-in-Err-write_configuration-clause-stopped_lines : goal.returns-in-Err-write_configuration-clause-stopped_lines
returns-in-Err-write_configuration-clause-stopped_lines g c =
    all_are_prefix (g.E.Sink.taken c.args.err.now) (g.E.Sink.taken c.report_files.new.sink)
    (report_bytes (run (world c.args.objects c.args.server.now.served) (file_events c.args.files.now))) c.in-Ok.ensures.lines
