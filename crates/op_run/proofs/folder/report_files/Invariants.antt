use Rattle.std.proofs.Common.{◌≤◌, drop}
use Rattle.op_run.proofs.RunLemmas.{Ran}
use Rattle.op_run.proofs.folder.report_files.Given as goal

abbrev pub invariant-loop-file : goal.invariant-loop-file
invariant-loop-file g l = record {
  ran : Ran (record { objects = l.initial.objects; served = l.initial.server.served }) l.files (g.O.Sink.taken l.initial.sink) (g.O.Sink.taken l.sink)
      (record { objects = l.objects; served = l.server.served }) (drop l.file-index l.files) l.good;
  later : g.O.Sink.faults l.initial.sink ≤ g.O.Sink.faults l.sink;
}
