-- The table, row by row.
use Rattle.std.proofs.Common.{[], ◌∙◌, ap, unwrap_or}
use Rattle.op_manifest.specs.Trees.{data_of}
use Rattle.op_manifest.proofs.RowLemmas.{read_table, row, end}
use Rattle.op_manifest.specs.Routes.{inhibit_rows, inhibit_of}
use Rattle.op_manifest.proofs.matching.InhibitRuleItem.read.Goals as goal

pub returns : goal.returns
unfolding inhibit_of
returns c = (
  read_table inhibit_rows c.args.path.now (data_of c.args.tree.now) _ _ _ c.in_ok-noted_known.ensures
      (row c.in_ok-sources.ensures.0
      (row c.in_ok-targets.ensures.0
      (row c.in_ok-equals.ensures.0
      end))),
  λ i. record {
    source_match = (c.or_none-source_match.ensures ∙ ap (λ all. unwrap_or all []) c.in_ok-sources.ensures.1) i;
    target_match = (c.or_none-target_match.ensures ∙ ap (λ all. unwrap_or all []) c.in_ok-targets.ensures.1) i;
    equal = (c.or_none-equal.ensures ∙ ap (λ all. unwrap_or all []) c.in_ok-equals.ensures.1) i;
  },
)
