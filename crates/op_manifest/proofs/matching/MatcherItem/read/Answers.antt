-- The table, row by row.
use Rattle.std.proofs.Common.{[], ◌∙◌, ap, unwrap_or, false}
use Rattle.op_manifest.specs.Trees.{data_of}
use Rattle.op_manifest.proofs.RowLemmas.{read_table, row, end}
use Rattle.op_manifest.specs.Routes.{matcher_rows, matcher_of, comparison_by}
use Rattle.op_manifest.proofs.matching.MatcherItem.read.Goals as goal

pub returns : goal.returns
unfolding matcher_of
returns c = (
  read_table matcher_rows c.args.path.now (data_of c.args.tree.now) _ _ _ c.in_ok-noted_known.ensures
      (row c.in_ok-given_name.ensures.0
      (row c.in_ok-given_value.ensures.0
      (row c.in_ok-given_op.ensures.0
      (row c.in_ok-regex.ensures.0
      end)))),
  λ i. record {
    name = (c.text_or_empty-name.ensures ∙ ap (λ name. unwrap_or name []) c.in_ok-given_name.ensures.1) i;
    op = (c.comparison_by-op.ensures ∙ (λ j. comparison_by (c.in_ok-given_op.ensures.1 j) ((c.unwrap_or.ensures ∙ ap (λ regex. unwrap_or regex false) c.in_ok-regex.ensures.1) j))) i;
    value = (c.text_or_empty-value.ensures ∙ ap (λ value. unwrap_or value []) c.in_ok-given_value.ensures.1) i;
  },
)
