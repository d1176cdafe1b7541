-- The table, row by row.
use Rattle.op_manifest.specs.Trees.{data_of}
use Rattle.op_manifest.proofs.RowLemmas.{read_table, row, end}
use Rattle.kind_rules.specs.RuleTables.{rule_rows, rule_of}
use Rattle.kind_rules.proofs.rule.RuleItem.read.Goals as goal

pub returns : goal.returns
unfolding rule_of
returns c = (
  read_table rule_rows c.args.path.now (data_of c.args.tree.now) _ _ _ c.in_ok-noted_known.ensures
      (row c.in_ok-record_name.ensures.0
      (row c.in_ok-alert_name.ensures.0
      (row c.in_ok-expr.ensures.0
      (row c.in_ok-wait_for.ensures.0
      (row c.in_ok-labels.ensures.0
      (row c.in_ok-annotations.ensures.0
      end)))))),
  λ i. record {
    record_name = c.in_ok-record_name.ensures.1 i;
    alert_name = c.in_ok-alert_name.ensures.1 i;
    expr = c.in_ok-expr.ensures.1 i;
    wait_for = c.in_ok-wait_for.ensures.1 i;
    labels = c.in_ok-labels.ensures.1 i;
    annotations = c.in_ok-annotations.ensures.1 i;
  },
)
