-- The table, row by row.
use Rattle.std.proofs.Common.{[], ◌∙◌, ap, unwrap_or}
use Rattle.op_manifest.specs.Trees.{data_of}
use Rattle.op_manifest.proofs.RowLemmas.{read_table, row, end}
use Rattle.kind_rules.specs.RuleTables.{prometheus_rule_rows, prometheus_rule_spec_of}
use Rattle.kind_rules.proofs.prometheus_rule_spec.PrometheusRuleSpecItem.read.Goals as goal

pub returns : goal.returns
unfolding prometheus_rule_spec_of
returns c = (
  read_table prometheus_rule_rows c.args.path.now (data_of c.args.tree.now) _ _ _ c.in_ok-noted_known.ensures
      (row c.in_ok-groups.ensures.0
      end),
  λ i. record {
    groups = (c.or_none.ensures ∙ ap (λ groups. unwrap_or groups []) c.in_ok-groups.ensures.1) i;
  },
)
