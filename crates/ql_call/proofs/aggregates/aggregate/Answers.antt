use Rattle.std.proofs.Common.{◌≡◌, true, false, IfOk, rules}
use Rattle.ql_tree.specs.declared.tree.AggregateOp.TheVariants.{CountValues, TopK, BottomK}
use Rattle.ql_call.specs.Aggregates.{aggregate, counted_values, groups_of}
use Rattle.ql_call.specs.Ranked.{best_of}
use Rattle.ql_call.specs.declared.outcome.Outcome.TheVariants.{Vector}
use Rattle.ql_call.proofs.OrderedLemmas.{if-ordered, nodes-keep-order}
use Rattle.ql_call.proofs.aggregates.aggregate.Goals as goal

pub returns-in-CountValues-clause-ordered : goal.returns-in-CountValues-clause-ordered
returns-in-CountValues-clause-ordered c =
    if-ordered c.counted_values.result (counted_values c.args.label.now c.args.grouping.now c.args.elements.now)
    (nodes-keep-order.aggregates CountValues c.args.grouping.now c.args.label.now c.args.k.now c.args.elements.now) c.counted_values.ensures

pub returns-in-TopK-clause-ordered : goal.returns-in-TopK-clause-ordered
returns-in-TopK-clause-ordered c =
    if-ordered c.best.result (Vector (best_of true c.args.k.now (groups_of c.args.grouping.now c.args.elements.now)))
    (nodes-keep-order.aggregates TopK c.args.grouping.now c.args.label.now c.args.k.now c.args.elements.now) c.best.ensures

pub returns-in-BottomK-clause-ordered : goal.returns-in-BottomK-clause-ordered
returns-in-BottomK-clause-ordered c =
    if-ordered c.best-in-BottomK.result (Vector (best_of false c.args.k.now (groups_of c.args.grouping.now c.args.elements.now)))
    (nodes-keep-order.aggregates BottomK c.args.grouping.now c.args.label.now c.args.k.now c.args.elements.now) c.best-in-BottomK.ensures

pub returns-in_ok-groups_of-in_default : goal.returns-in_ok-groups_of-in_default
returns-in_ok-groups_of-in_default c =
    let given = aggregate c.args.op c.args.grouping.now c.args.label.now c.args.k.now c.args.elements.now in
    let value : IfOk c.aggregated_groups.result (λ o. o ≡ given) = search rules in
    record {
      value = value;
      ordered = if-ordered c.aggregated_groups.result given
          (nodes-keep-order.aggregates c.args.op c.args.grouping.now c.args.label.now c.args.k.now c.args.elements.now) value;
    }
