use Rattle.std.proofs.Common.{◌≡◌, ◌⊎◌, ◌∙◌, [], true, false, map, string_bytes, ap, subst}
use Rattle.std.specs.Io.KnownBytes.{Appends}
use Rattle.op_edges.specs.Causes.{Rose}
use Rattle.op_edges.specs.Streams.{AppendsPrefix}
use Rattle.op_report.specs.ReadBack.{report_bytes}
use Rattle.op_run.specs.Headline.{Headline}
use Rattle.op_run.specs.Outputs.{reports_of, run_text}
use Rattle.op_run.proofs.HeadlineLemmas.{headline}
use Rattle.operator_cli.specs.Endings.{StopsWith, InOrder}
use Rattle.operator_cli.specs.Statuses.{status_text, is_ended}
use Rattle.operator_cli.proofs.EndingLemmas.{where_compiled, where_run, stops_with, stops_silent, in_order}
use Rattle.operator_cli.proofs.program.operate.Goals as goal

pub returns-clause-stopped_lines : goal.returns-clause-stopped_lines
returns-clause-stopped_lines g c =
    let taken = g.E.Sink.taken c.args.err.now in
    let now = g.E.Sink.taken c.put_all.new.sink in
    let rose = Rose (g.E.Sink.faults c.args.err.now) (g.E.Sink.faults c.put_all.new.sink) in
    where_compiled (map string_bytes c.args.words.now) (g.F.Folder.content c.args.folder.now) (λ files. is_ended c.carry_out-status.result ≡ false → AppendsPrefix taken (g.E.Sink.taken c.carry_out-status.new.err) (report_bytes (reports_of files)))
    (λ files. is_ended c.carry_out-status.result ≡ false → StopsWith taken now (report_bytes (reports_of files)) (status_text c.carry_out-status.result) rose)
    (λ files prefix stopped. subst (λ text. StopsWith taken now (report_bytes (reports_of files)) text rose) (c.as_bytes.ensures.value ∙ c.text.ensures)
    (stops_with _ _ _ (report_bytes (reports_of files)) c.as_bytes.result.now c.put_all.result _ _ _ c.carry_out-status.ensures.later (prefix stopped)
    c.put_all.ensures.ok c.put_all.ensures.prefix c.put_all.ensures.failed))
    c.carry_out-status.ensures.stopped_lines

pub returns-clause-silent_err : goal.returns-clause-silent_err
returns-clause-silent_err g c = λ silent.
    let taken = g.E.Sink.taken c.args.err.now in
    let now = g.E.Sink.taken c.put_all.new.sink in
    let rose = Rose (g.E.Sink.faults c.args.err.now) (g.E.Sink.faults c.put_all.new.sink) in
    subst (λ text. StopsWith taken now [] text rose) (c.as_bytes.ensures.value ∙ c.text.ensures)
    (stops_silent _ _ _ c.as_bytes.result.now c.put_all.result _ _ _ (ap g.E.Sink.taken (c.carry_out-status.ensures.silent silent).0) c.carry_out-status.ensures.later
    c.put_all.ensures.ok c.put_all.ensures.prefix c.put_all.ensures.failed)

pub returns-clause-limit_err : goal.returns-clause-limit_err
returns-clause-limit_err g c = λ limit compiled.
    let taken = g.E.Sink.taken c.args.err.now in
    let now = g.E.Sink.taken c.put_all.new.sink in
    let rose = Rose (g.E.Sink.faults c.args.err.now) (g.E.Sink.faults c.put_all.new.sink) in
    subst (λ text. StopsWith taken now [] text rose) (c.as_bytes.ensures.value ∙ c.text.ensures)
    (stops_silent _ _ _ c.as_bytes.result.now c.put_all.result _ _ _ (ap g.E.Sink.taken (c.carry_out-status.ensures.limit_silent limit compiled).0) c.carry_out-status.ensures.later
    c.put_all.ensures.ok c.put_all.ensures.prefix c.put_all.ensures.failed)

pub returns-clause-run_err : goal.returns-clause-run_err
returns-clause-run_err g c = λ runs.
    let taken = g.E.Sink.taken c.args.err.now in
    let now = g.E.Sink.taken c.put_all.new.sink in
    let rose = Rose (g.E.Sink.faults c.args.err.now) (g.E.Sink.faults c.put_all.new.sink) in
    subst (λ text. StopsWith taken now [] text rose) (c.as_bytes.ensures.value ∙ c.text.ensures)
    (stops_silent _ _ _ c.as_bytes.result.now c.put_all.result _ _ _ (ap g.E.Sink.taken (c.carry_out-status.ensures.run_err runs)) c.carry_out-status.ensures.later
    c.put_all.ensures.ok c.put_all.ensures.prefix c.put_all.ensures.failed)

pub returns-clause-order : goal.returns-clause-order
returns-clause-order g c =
    let taken = g.E.Sink.taken c.args.err.now in
    let now = g.E.Sink.taken c.put_all.new.sink in
    let same : Type 0 = c.carry_out-status.new.out ≡ c.args.out.now in
    where_compiled (map string_bytes c.args.words.now) (g.F.Folder.content c.args.folder.now)
    (λ files. same ⊎ Appends taken (g.E.Sink.taken c.carry_out-status.new.err) (report_bytes (reports_of files)))
    (λ files. InOrder same taken now (report_bytes (reports_of files)) (status_text c.carry_out-status.result))
    (λ files either. subst (λ text. InOrder same taken now (report_bytes (reports_of files)) text) (c.as_bytes.ensures.value ∙ c.text.ensures)
    (in_order same _ _ _ (report_bytes (reports_of files)) c.as_bytes.result.now c.put_all.result either c.put_all.ensures.ok c.put_all.ensures.prefix))
    c.carry_out-status.ensures.order

pub returns-clause-headline : goal.returns-clause-headline
returns-clause-headline g c =
    let taken = g.O.Sink.taken c.args.out.now in
    let now = g.O.Sink.taken c.carry_out-status.new.out in
    where_run (map string_bytes c.args.words.now) (g.F.Folder.content c.args.folder.now) (g.S.Source.left c.args.input.now) (g.S.Source.left c.carry_out-status.new.input)
    (λ files bytes left. is_ended c.carry_out-status.result ≡ true → Appends taken now (run_text files bytes))
    (λ files bytes left. is_ended c.carry_out-status.result ≡ true → Headline files bytes taken now)
    (λ files bytes left wrote ended. headline files bytes taken now (wrote ended))
    c.carry_out-status.ensures.run_text
