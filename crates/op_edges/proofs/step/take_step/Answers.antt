use Rattle.std.proofs.Common.{◌++◌, ◌≤◌, ◌-◌, length, take, ap, subst, IfOk, arith}
use Rattle.op_edges.specs.Lines.{most_bytes, IsClean}
use Rattle.op_edges.specs.Steps.{gone, Ends, StepSays}
use Rattle.op_edges.specs.declared.lines.Line.TheVariants.{Limit}
use Rattle.op_edges.proofs.ToldLemmas.{told_same}
use Rattle.op_edges.proofs.LineLemmas.{limit_says}
use Rattle.op_edges.proofs.step.take_step.Goals as goal
use Rattle.op_edges.proofs.step.take_step.Goals.{else-place-size-via-then-place-size+else-came-size-lt-MOST_BYTES, else-place-size-via-else-place-size}

pub returns-then-came-size-lt-MOST_BYTES-clause-says : goal.returns-then-came-size-lt-MOST_BYTES-clause-says
returns-then-came-size-lt-MOST_BYTES-clause-says g c =
    told_same (g.S.Source.left c.args.source.now)
    (λ before after. IfOk c.cut.result (λ step. StepSays c.args.begun.passed (gone c.args.held.now) step (c.args.held.now.bytes ++ before) (c.cut.new.held.bytes ++ after)))
    c.cut.ensures.says

pub returns-then-came-gt-MOST_BYTES-clause-says : goal.returns-then-came-gt-MOST_BYTES-clause-says
returns-then-came-gt-MOST_BYTES-clause-says g c =
    told_same (g.S.Source.left c.args.source.now)
    (λ before after. Ends c.args.begun.passed Limit (gone c.args.held.now) (c.args.held.now.bytes ++ before) (c.args.held.now.bytes ++ after))
    (λ left. let size = ap length c.bytes.ensures in
    let size-too = ap length c.bytes-size.ensures in
    let far : most_bytes - gone c.args.held.now ≤ c.newline_from-place.result =
    elim c.else-place-size.branch [
      | else-place-size-via-then-place-size+else-came-size-lt-MOST_BYTES w ↦ omega (arith, size-too, c.came-came.ensures.came)
      | else-place-size-via-else-place-size w ↦ omega (arith, size-too, c.came-came.ensures.came, c.came-came.ensures.held)
    ] in
    limit_says (gone c.args.held.now) c.newline_from-place.result c.args.begun.passed c.args.held.now.bytes left
    (omega (arith, c.came-came.ensures.came, c.came-came.ensures.held)) far (omega (arith, size))
    (subst (λ l. IsClean (take c.newline_from-place.result l)) c.bytes.ensures c.newline_from-place.ensures.clean))
