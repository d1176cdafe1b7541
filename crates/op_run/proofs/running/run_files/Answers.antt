use Rattle.std.proofs.Common.{◌≡◌, ◌≤◌, ◌<◌, ◌+◌, [], length, OnOk, OnErr, IfOk, IfErr}
use Rattle.std.specs.Io.KnownBytes.{Appends}
use Rattle.op_edges.specs.Lines.{most_bytes}
use Rattle.op_edges.specs.Streams.{AppendsPrefix}
use Rattle.op_run.specs.declared.stop.Stop.TheVariants.{Limit}
use Rattle.op_run.specs.Outputs.{run_reports, run_text}
use Rattle.op_run.specs.WellAnswered.{all_well}
use Rattle.op_run.proofs.InputRunLemmas.{told_of, text_of, good_of, part_of, read_of, whole_of, limit_of}
use Rattle.op_run.proofs.running.run_files.Goals as goal

pub returns-clause-text : goal.returns-clause-text
returns-clause-text g c = told_of (g.S.Source.left c.args.input.now) (g.S.Source.left c.files_and_input.new.input) c.files_and_input.result
    (run_text c.args.files.now) (λ bytes. all_well (run_reports c.args.files.now bytes)) (g.O.Sink.taken c.args.out.now) (g.O.Sink.taken c.files_and_input.new.out)
    (λ bytes after. OnOk c.files_and_input.result (Appends (g.O.Sink.taken c.args.out.now) (g.O.Sink.taken c.files_and_input.new.out) (run_text c.args.files.now bytes)))
    (λ x y. text_of (run_text c.args.files.now x) (all_well (run_reports c.args.files.now x)) (g.O.Sink.taken c.args.out.now) (g.O.Sink.taken c.files_and_input.new.out) x y c.files_and_input.result)
    c.files_and_input.ensures.ran

pub returns-clause-good : goal.returns-clause-good
returns-clause-good g c = told_of (g.S.Source.left c.args.input.now) (g.S.Source.left c.files_and_input.new.input) c.files_and_input.result
    (run_text c.args.files.now) (λ bytes. all_well (run_reports c.args.files.now bytes)) (g.O.Sink.taken c.args.out.now) (g.O.Sink.taken c.files_and_input.new.out)
    (λ bytes after. IfOk c.files_and_input.result (λ good. good ≡ all_well (run_reports c.args.files.now bytes)))
    (λ x y. good_of (run_text c.args.files.now x) (all_well (run_reports c.args.files.now x)) (g.O.Sink.taken c.args.out.now) (g.O.Sink.taken c.files_and_input.new.out) x y c.files_and_input.result)
    c.files_and_input.ensures.ran

pub returns-clause-stopped : goal.returns-clause-stopped
returns-clause-stopped g c = told_of (g.S.Source.left c.args.input.now) (g.S.Source.left c.files_and_input.new.input) c.files_and_input.result
    (run_text c.args.files.now) (λ bytes. all_well (run_reports c.args.files.now bytes)) (g.O.Sink.taken c.args.out.now) (g.O.Sink.taken c.files_and_input.new.out)
    (λ bytes after. OnErr c.files_and_input.result (AppendsPrefix (g.O.Sink.taken c.args.out.now) (g.O.Sink.taken c.files_and_input.new.out) (run_text c.args.files.now bytes)))
    (λ x y. part_of (run_text c.args.files.now x) (all_well (run_reports c.args.files.now x)) (g.O.Sink.taken c.args.out.now) (g.O.Sink.taken c.files_and_input.new.out) x y c.files_and_input.result)
    c.files_and_input.ensures.ran

pub returns-clause-read : goal.returns-clause-read
returns-clause-read g c = told_of (g.S.Source.left c.args.input.now) (g.S.Source.left c.files_and_input.new.input) c.files_and_input.result
    (run_text c.args.files.now) (λ bytes. all_well (run_reports c.args.files.now bytes)) (g.O.Sink.taken c.args.out.now) (g.O.Sink.taken c.files_and_input.new.out)
    (λ bytes after. OnOk c.files_and_input.result (length bytes ≤ most_bytes))
    (λ x y. read_of (run_text c.args.files.now x) (all_well (run_reports c.args.files.now x)) (g.O.Sink.taken c.args.out.now) (g.O.Sink.taken c.files_and_input.new.out) x y c.files_and_input.result)
    c.files_and_input.ensures.ran

pub returns-clause-whole : goal.returns-clause-whole
returns-clause-whole g c = told_of (g.S.Source.left c.args.input.now) (g.S.Source.left c.files_and_input.new.input) c.files_and_input.result
    (run_text c.args.files.now) (λ bytes. all_well (run_reports c.args.files.now bytes)) (g.O.Sink.taken c.args.out.now) (g.O.Sink.taken c.files_and_input.new.out)
    (λ bytes after. OnOk c.files_and_input.result (after ≡ []))
    (λ x y. whole_of (run_text c.args.files.now x) (all_well (run_reports c.args.files.now x)) (g.O.Sink.taken c.args.out.now) (g.O.Sink.taken c.files_and_input.new.out) x y c.files_and_input.result)
    c.files_and_input.ensures.ran

pub returns-clause-limit : goal.returns-clause-limit
returns-clause-limit g c = told_of (g.S.Source.left c.args.input.now) (g.S.Source.left c.files_and_input.new.input) c.files_and_input.result
    (run_text c.args.files.now) (λ bytes. all_well (run_reports c.args.files.now bytes)) (g.O.Sink.taken c.args.out.now) (g.O.Sink.taken c.files_and_input.new.out)
    (λ bytes after. IfErr c.files_and_input.result (λ stop. stop ≡ Limit → most_bytes + length after < length bytes))
    (λ x y. limit_of (run_text c.args.files.now x) (all_well (run_reports c.args.files.now x)) (g.O.Sink.taken c.args.out.now) (g.O.Sink.taken c.files_and_input.new.out) x y c.files_and_input.result)
    c.files_and_input.ensures.ran

pub returns-clause-input : goal.returns-clause-input
returns-clause-input g c = c.files_and_input.ensures.causes.input

pub returns-clause-output : goal.returns-clause-output
returns-clause-output g c = c.files_and_input.ensures.causes.output
