use Rattle.std.proofs.Common.{◌≡◌, ◌+◌, ◌∙◌, ◌++◌, Ok, Err, true, length, refl, ap, arith}
use Rattle.op_edges.specs.Lines.{Reading, shown_lines}
use Rattle.op_edges.proofs.ToldLemmas.{told_same, told_then}
use Rattle.op_report.specs.ReadBack.{report_bytes}
use Rattle.op_run.specs.declared.lines.Next.TheVariants.{More, Ends, Stops}
use Rattle.op_run.specs.declared.stop.Stop.TheVariants.{Memory}
use Rattle.op_run.specs.InputRuns.{InputRan}
use Rattle.op_run.specs.LineRuns.{LineRan, LinesRan}
use Rattle.op_run.specs.Lines.{all_said}
use Rattle.op_run.specs.WellAnswered.{all_well}
use Rattle.op_run.proofs.InputRunLemmas.{none_ran, memory_causes, end_causes, stop_causes}
use Rattle.op_run.proofs.LinesRanLemmas.{lines_start, lines_on, lines_end, lines_stop}
use Rattle.op_run.proofs.lines.run_lines.Goals as goal

pub returns-in-Err-clause-ran : goal.returns-in-Err-clause-ran
returns-in-Err-clause-ran g c = told_same (g.S.Source.left c.args.source.now)
    (λ bytes after. InputRan (Err Memory) (report_bytes (all_said c.args.server.now.config c.args.server.now.served 0 (shown_lines bytes)))
    (all_well (all_said c.args.server.now.config c.args.server.now.served 0 (shown_lines bytes))) (g.O.Sink.taken c.args.sink.now) (g.O.Sink.taken c.args.sink.now) bytes after)
    (λ bytes. none_ran (report_bytes (all_said c.args.server.now.config c.args.server.now.served 0 (shown_lines bytes)))
    (all_well (all_said c.args.server.now.config c.args.server.now.served 0 (shown_lines bytes))) (g.O.Sink.taken c.args.sink.now) bytes)

pub returns-in-Err-clause-causes : goal.returns-in-Err-clause-causes
returns-in-Err-clause-causes g c = memory_causes (g.S.Source.faults c.args.source.now) (g.O.Sink.faults c.args.sink.now)

pub loop-well-init : goal.loop-well-init
loop-well-init g c = record {
  going = ap (λ (r : Reading). r.going) c.in-Ok.ensures;
  config = refl;
  ran = told_same (g.S.Source.left c.args.source.now)
      (λ before after. LinesRan c.args.server.now.config c.args.server.now.served before (g.O.Sink.taken c.args.sink.now) (g.O.Sink.taken c.args.sink.now)
      c.args.server.now.served c.in-Ok.reader.line (c.in-Ok.reader.held ++ after) true × (c.in-Ok.reader.came + length after ≡ length before))
      (λ all. lines_start c.args.server.now c.in-Ok.reader (g.O.Sink.taken c.args.sink.now) all c.in-Ok.ensures);
  later_input = omega arith;
  later_output = omega arith;
}

pub loop-well-preserved : goal.loop-well-preserved
loop-well-preserved g c = record {
  going = c.in-More.ensures.going.0;
  config = c.in-More.ensures.going.1 ∙ c.loop-well.invariant.config;
  ran = told_then (g.S.Source.left c.args.source.now) (g.S.Source.left c.loop-well.source) (g.S.Source.left c.run_line.new.source)
      (λ all coming. LinesRan c.args.server.now.config c.args.server.now.served all (g.O.Sink.taken c.args.sink.now) (g.O.Sink.taken c.loop-well.sink)
      c.loop-well.server.served c.loop-well.reader.line (c.loop-well.reader.held ++ coming) c.loop-well.good × (c.loop-well.reader.came + length coming ≡ length all))
      (λ coming left. LineRan (More c.in-More.well) c.loop-well.server c.run_line.new.server c.loop-well.reader c.run_line.new.reader
      (g.O.Sink.taken c.loop-well.sink) (g.O.Sink.taken c.run_line.new.sink) coming left)
      (λ all left. LinesRan c.args.server.now.config c.args.server.now.served all (g.O.Sink.taken c.args.sink.now) (g.O.Sink.taken c.run_line.new.sink)
      c.run_line.new.server.served c.run_line.new.reader.line (c.run_line.new.reader.held ++ left) c.both-good.result
      × (c.run_line.new.reader.came + length left ≡ length all))
      (λ all coming left ran one. lines_on c.args.server.now c.loop-well.server c.loop-well.reader (g.O.Sink.taken c.args.sink.now) (g.O.Sink.taken c.loop-well.sink)
      all coming c.loop-well.good c.loop-well.invariant.config ran c.run_line.new.server c.run_line.new.reader (g.O.Sink.taken c.run_line.new.sink) left
      c.in-More.well c.both-good.result c.both-good.ensures one)
      c.loop-well.invariant.ran c.in-More.ensures.ran;
  later_input = omega (arith, c.loop-well.invariant.later_input, c.in-More.ensures.causes.later_input);
  later_output = omega (arith, c.loop-well.invariant.later_output, c.in-More.ensures.causes.later_output);
}

pub loop-well-smaller : goal.loop-well-smaller
loop-well-smaller g c = omega (arith, c.in-More.ensures.counted.0, c.in-More.ensures.counted.1)

pub returns-in-Ends-clause-ran : goal.returns-in-Ends-clause-ran
returns-in-Ends-clause-ran g c = told_then (g.S.Source.left c.args.source.now) (g.S.Source.left c.loop-well.source) (g.S.Source.left c.run_line.new.source)
    (λ all coming. LinesRan c.args.server.now.config c.args.server.now.served all (g.O.Sink.taken c.args.sink.now) (g.O.Sink.taken c.loop-well.sink)
    c.loop-well.server.served c.loop-well.reader.line (c.loop-well.reader.held ++ coming) c.loop-well.good × (c.loop-well.reader.came + length coming ≡ length all))
    (λ coming left. LineRan Ends c.loop-well.server c.run_line.new.server c.loop-well.reader c.run_line.new.reader
    (g.O.Sink.taken c.loop-well.sink) (g.O.Sink.taken c.run_line.new.sink) coming left)
    (λ all left. InputRan (Ok c.loop-well.good) (report_bytes (all_said c.args.server.now.config c.args.server.now.served 0 (shown_lines all)))
    (all_well (all_said c.args.server.now.config c.args.server.now.served 0 (shown_lines all)))
    (g.O.Sink.taken c.args.sink.now) (g.O.Sink.taken c.run_line.new.sink) all left)
    (λ all coming left ran ends. lines_end c.args.server.now c.loop-well.server c.loop-well.reader (g.O.Sink.taken c.args.sink.now) (g.O.Sink.taken c.loop-well.sink)
    all coming c.loop-well.good c.loop-well.invariant.config ran c.run_line.new.server c.run_line.new.reader (g.O.Sink.taken c.run_line.new.sink) left ends)
    c.loop-well.invariant.ran c.in-Ends.ensures.ran

pub returns-in-Ends-clause-causes : goal.returns-in-Ends-clause-causes
returns-in-Ends-clause-causes g c = end_causes c.loop-well.good
    (g.S.Source.faults c.args.source.now) (g.S.Source.faults c.loop-well.source) (g.S.Source.faults c.run_line.new.source)
    (g.O.Sink.faults c.args.sink.now) (g.O.Sink.faults c.loop-well.sink) (g.O.Sink.faults c.run_line.new.sink)
    c.loop-well.invariant.later_input c.loop-well.invariant.later_output c.in-Ends.ensures.causes

pub returns-in-Stops-clause-ran : goal.returns-in-Stops-clause-ran
returns-in-Stops-clause-ran g c = told_then (g.S.Source.left c.args.source.now) (g.S.Source.left c.loop-well.source) (g.S.Source.left c.run_line.new.source)
    (λ all coming. LinesRan c.args.server.now.config c.args.server.now.served all (g.O.Sink.taken c.args.sink.now) (g.O.Sink.taken c.loop-well.sink)
    c.loop-well.server.served c.loop-well.reader.line (c.loop-well.reader.held ++ coming) c.loop-well.good × (c.loop-well.reader.came + length coming ≡ length all))
    (λ coming left. LineRan (Stops c.in-Stops.stop) c.loop-well.server c.run_line.new.server c.loop-well.reader c.run_line.new.reader
    (g.O.Sink.taken c.loop-well.sink) (g.O.Sink.taken c.run_line.new.sink) coming left)
    (λ all left. InputRan (Err c.in-Stops.stop) (report_bytes (all_said c.args.server.now.config c.args.server.now.served 0 (shown_lines all)))
    (all_well (all_said c.args.server.now.config c.args.server.now.served 0 (shown_lines all)))
    (g.O.Sink.taken c.args.sink.now) (g.O.Sink.taken c.run_line.new.sink) all left)
    (λ all coming left ran stops. lines_stop c.args.server.now c.loop-well.server c.loop-well.reader (g.O.Sink.taken c.args.sink.now) (g.O.Sink.taken c.loop-well.sink)
    all coming c.loop-well.good c.loop-well.invariant.config ran c.in-Stops.stop c.run_line.new.server c.run_line.new.reader (g.O.Sink.taken c.run_line.new.sink) left stops)
    c.loop-well.invariant.ran c.in-Stops.ensures.ran

pub returns-in-Stops-clause-causes : goal.returns-in-Stops-clause-causes
returns-in-Stops-clause-causes g c = stop_causes c.in-Stops.stop
    (g.S.Source.faults c.args.source.now) (g.S.Source.faults c.loop-well.source) (g.S.Source.faults c.run_line.new.source)
    (g.O.Sink.faults c.args.sink.now) (g.O.Sink.faults c.loop-well.sink) (g.O.Sink.faults c.run_line.new.sink)
    c.loop-well.invariant.later_input c.loop-well.invariant.later_output c.in-Stops.ensures.causes
