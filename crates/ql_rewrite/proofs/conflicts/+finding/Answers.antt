use Rattle.std.proofs.Common.{◌∙◌, ap, sym, arith}
use Rattle.std.specs.Option.{option_copied}
use Rattle.ql_tree.specs.Enforced.{first_conflict, first_of}
use Rattle.ql_rewrite.proofs.ConflictLemmas.{at_sign, at_call, at_operator, at_aggregate, conflicts_below, on_left, on_right, first_child}
use Rattle.ql_rewrite.proofs.conflicts.+finding.Goals as goal

pub first_below-returns-in-Some : goal.first_below-returns-in-Some
first_below-returns-in-Some t c =
    first_child c.args.name.now c.args.value.now c.args.exprs.now c.loop-expr.expr-index c.expr-item.result c.in-Some.m.now
    (omega arith) c.expr-item.is c.loop-expr.invariant c.in-Some.ensures

pub first_conflict-returns-in-Unary : goal.first_conflict-returns-in-Unary
first_conflict-returns-in-Unary t c =
    c.first_below.ensures
    ∙ ap (λ es. first_of (conflicts_below c.args.name.now c.args.value.now es)) c.as_slice-in-Unary.ensures
    ∙ sym (at_sign c.args.name.now c.args.value.now c.in-Unary.minus c.in-Unary.of)
    ∙ ap (first_conflict c.args.name.now c.args.value.now) (sym c.in-Unary.is)

pub first_conflict-returns-in-Call : goal.first_conflict-returns-in-Call
first_conflict-returns-in-Call t c =
    c.first_below-in-Call.ensures
    ∙ ap (λ es. first_of (conflicts_below c.args.name.now c.args.value.now es)) c.as_slice-in-Call.ensures
    ∙ sym (at_call c.args.name.now c.args.value.now c.in-Call.function c.in-Call.args)
    ∙ ap (first_conflict c.args.name.now c.args.value.now) (sym c.in-Call.is)

pub first_conflict-returns-in-Some : goal.first_conflict-returns-in-Some
first_conflict-returns-in-Some t c =
    on_left (conflicts_below c.args.name.now c.args.value.now c.in-Binary.left) (conflicts_below c.args.name.now c.args.value.now c.in-Binary.right) c.in-Some.m.now
    (first_conflict c.args.name.now c.args.value.now c.args.expr.now)
    (c.in-Some.ensures ∙ ap (λ es. first_of (conflicts_below c.args.name.now c.args.value.now es)) c.as_slice-in-Binary.ensures)
    (ap (first_conflict c.args.name.now c.args.value.now) c.in-Binary.is ∙ at_operator c.args.name.now c.args.value.now c.in-Binary.op c.in-Binary.boolean c.in-Binary.matching c.in-Binary.left c.in-Binary.right)

pub first_conflict-returns-in-None : goal.first_conflict-returns-in-None
first_conflict-returns-in-None t c =
    on_right (conflicts_below c.args.name.now c.args.value.now c.in-Binary.left) (conflicts_below c.args.name.now c.args.value.now c.in-Binary.right)
    (option_copied c.first_below-in-None.result) (first_conflict c.args.name.now c.args.value.now c.args.expr.now)
    (c.in-None.ensures ∙ ap (λ es. first_of (conflicts_below c.args.name.now c.args.value.now es)) c.as_slice-in-Binary.ensures)
    (c.first_below-in-None.ensures ∙ ap (λ es. first_of (conflicts_below c.args.name.now c.args.value.now es)) c.as_slice-in-None.ensures)
    (ap (first_conflict c.args.name.now c.args.value.now) c.in-Binary.is ∙ at_operator c.args.name.now c.args.value.now c.in-Binary.op c.in-Binary.boolean c.in-Binary.matching c.in-Binary.left c.in-Binary.right)

pub first_conflict-returns-in-Some-first_below : goal.first_conflict-returns-in-Some-first_below
first_conflict-returns-in-Some-first_below t c =
    on_left (conflicts_below c.args.name.now c.args.value.now c.in-Aggregate.param) (conflicts_below c.args.name.now c.args.value.now c.in-Aggregate.of) c.in-Some-first_below.m.now
    (first_conflict c.args.name.now c.args.value.now c.args.expr.now)
    (c.in-Some-first_below.ensures ∙ ap (λ es. first_of (conflicts_below c.args.name.now c.args.value.now es)) c.as_slice-in-Aggregate.ensures)
    (ap (first_conflict c.args.name.now c.args.value.now) c.in-Aggregate.is ∙ at_aggregate c.args.name.now c.args.value.now c.in-Aggregate.op c.in-Aggregate.grouping c.in-Aggregate.param c.in-Aggregate.of)

pub first_conflict-returns-in-None-first_below : goal.first_conflict-returns-in-None-first_below
first_conflict-returns-in-None-first_below t c =
    on_right (conflicts_below c.args.name.now c.args.value.now c.in-Aggregate.param) (conflicts_below c.args.name.now c.args.value.now c.in-Aggregate.of)
    (option_copied c.first_below-in-None-first_below.result) (first_conflict c.args.name.now c.args.value.now c.args.expr.now)
    (c.in-None-first_below.ensures ∙ ap (λ es. first_of (conflicts_below c.args.name.now c.args.value.now es)) c.as_slice-in-Aggregate.ensures)
    (c.first_below-in-None-first_below.ensures ∙ ap (λ es. first_of (conflicts_below c.args.name.now c.args.value.now es)) c.as_slice-in-None-first_below.ensures)
    (ap (first_conflict c.args.name.now c.args.value.now) c.in-Aggregate.is ∙ at_aggregate c.args.name.now c.args.value.now c.in-Aggregate.op c.in-Aggregate.grouping c.in-Aggregate.param c.in-Aggregate.of)
