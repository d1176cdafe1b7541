-- The table, row by row.
use Rattle.std.proofs.Common.{◌++◌, [], ◌∙◌, map, unwrap_or}
use Rattle.op_manifest.specs.Selectors.{selector_rows, selector_of, is_pair}
use Rattle.op_manifest.specs.Trees.{data_of}
use Rattle.op_manifest.proofs.RowLemmas.{read_table, row, end}
use Rattle.op_manifest.proofs.selector.SelectorItem.read.Goals as goal

pub returns : goal.returns
unfolding selector_of
returns c = (
  read_table selector_rows c.args.path.now (data_of c.args.tree.now) _ _ _ c.in_ok-noted_known.ensures
      (row c.in_ok-labels.ensures.0
      (row c.in_ok-expressions.ensures.0
      end)),
  λ i. record {
    all = (c.in_ok-all.ensures ∙ (λ j. map is_pair (unwrap_or (c.in_ok-labels.ensures.1 j) []) ++ unwrap_or (c.in_ok-expressions.ensures.1 j) [])) i;
  },
)
