use Rattle.std.proofs.Common.{arith}
use Rattle.op_run.proofs.RunLemmas.{ran_none, ran_next, ran_into, ran_all}
use Rattle.op_run.proofs.folder.report_files.Goals as goal

pub loop-file-init : goal.loop-file-init
loop-file-init g c = record {
  ran = ran_none (record { objects = c.args.objects.now; served = c.args.server.now.served }) c.args.files.now (g.O.Sink.taken c.args.sink.now);
  later = omega arith;
}

pub returns-in-Err-clause-prefix : goal.returns-in-Err-clause-prefix
returns-in-Err-clause-prefix g c = ran_into (record { objects = c.args.objects.now; served = c.args.server.now.served }) c.args.files.now
    (g.O.Sink.taken c.args.sink.now) (g.O.Sink.taken c.loop-file.sink) (g.O.Sink.taken c.report_file.new.sink)
    (record { objects = c.loop-file.objects; served = c.loop-file.server.served }) c.loop-file.good c.loop-file.file-index c.file-item.result
    c.loop-file-test.true c.file-item.is c.loop-file.invariant.ran c.in-Err.ensures.prefix

pub loop-file-preserved : goal.loop-file-preserved
loop-file-preserved g c = record {
  ran = ran_next (record { objects = c.args.objects.now; served = c.args.server.now.served }) c.args.files.now
      (g.O.Sink.taken c.args.sink.now) (g.O.Sink.taken c.loop-file.sink) (g.O.Sink.taken c.report_file.new.sink)
      (record { objects = c.loop-file.objects; served = c.loop-file.server.served })
      (record { objects = c.report_file.new.objects; served = c.report_file.new.server.served })
      c.loop-file.good c.in-Ok.well c.both-good.result c.loop-file.file-index c.file-item.result
      c.loop-file-test.true c.file-item.is c.loop-file.invariant.ran c.in-Ok.ensures.line c.in-Ok.ensures.world c.in-Ok.ensures.good c.both-good.ensures;
  later = omega (arith, c.loop-file.invariant.later, c.in-Ok.ensures.later);
}

pub returns-clause-lines : goal.returns-clause-lines
returns-clause-lines g c = (ran_all (record { objects = c.args.objects.now; served = c.args.server.now.served }) c.args.files.now
    (g.O.Sink.taken c.args.sink.now) (g.O.Sink.taken c.loop-file.sink) (record { objects = c.loop-file.objects; served = c.loop-file.server.served })
    c.loop-file.good c.loop-file.file-index c.loop-file-test.false c.loop-file.invariant.ran).lines

pub returns-clause-world : goal.returns-clause-world
returns-clause-world g c = (ran_all (record { objects = c.args.objects.now; served = c.args.server.now.served }) c.args.files.now
    (g.O.Sink.taken c.args.sink.now) (g.O.Sink.taken c.loop-file.sink) (record { objects = c.loop-file.objects; served = c.loop-file.server.served })
    c.loop-file.good c.loop-file.file-index c.loop-file-test.false c.loop-file.invariant.ran).world_left

pub returns-clause-good : goal.returns-clause-good
returns-clause-good g c = (ran_all (record { objects = c.args.objects.now; served = c.args.server.now.served }) c.args.files.now
    (g.O.Sink.taken c.args.sink.now) (g.O.Sink.taken c.loop-file.sink) (record { objects = c.loop-file.objects; served = c.loop-file.server.served })
    c.loop-file.good c.loop-file.file-index c.loop-file-test.false c.loop-file.invariant.ran).well
