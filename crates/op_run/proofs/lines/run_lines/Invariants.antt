use Rattle.std.proofs.Common.{◌≡◌, ◌+◌, ◌-◌, ◌^◌, ◌≤◌, ◌++◌, true, length}
use Rattle.op_edges.specs.Told.{Told}
use Rattle.op_run.specs.LineRuns.{LinesRan}
use Rattle.op_run.proofs.lines.run_lines.Given as goal

abbrev pub invariant-loop-well : goal.invariant-loop-well
invariant-loop-well g l = record {
  going : l.reader.going ≡ true;
  config : l.server.config ≡ l.initial.server.config;
  ran : Told (g.S.Source.left l.initial.source) (g.S.Source.left l.source) (λ before after.
      LinesRan l.initial.server.config l.initial.server.served before (g.O.Sink.taken l.initial.sink) (g.O.Sink.taken l.sink)
      l.server.served l.reader.line (l.reader.held ++ after) l.good
      × (l.reader.came + length after ≡ length before));
  later_input : g.S.Source.faults l.initial.source ≤ g.S.Source.faults l.source;
  later_output : g.O.Sink.faults l.initial.sink ≤ g.O.Sink.faults l.sink;
}

-- the number of lines that can be counted yet
abbrev pub decreases-loop-well : goal.decreases-loop-well
decreases-loop-well g l = 2 ^ 64 - l.reader.line
