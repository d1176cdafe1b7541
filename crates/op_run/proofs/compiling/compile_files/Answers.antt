use Rattle.std.proofs.Common.{OnErr, subst}
use Rattle.op_edges.specs.Streams.{AppendsPrefix}
use Rattle.op_run.specs.Outputs.{configuration_after}
use Rattle.op_run.proofs.WholeRunLemmas.{begins}
use Rattle.op_run.proofs.compiling.compile_files.Goals as goal

pub returns-in-Ok-clause-stopped_configuration : goal.returns-in-Ok-clause-stopped_configuration
returns-in-Ok-clause-stopped_configuration g c = subst
    (λ w. OnErr c.compile_after.result (AppendsPrefix (g.O.Sink.taken c.args.out.now) (g.O.Sink.taken c.compile_after.new.out) (configuration_after w c.args.files.now)))
    (begins c.new-objects.result c.in-Ok.server c.new-objects.ensures c.in-Ok.ensures) c.compile_after.ensures.stopped_configuration
