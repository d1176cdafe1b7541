-- The table, row by row.
use Rattle.std.proofs.Common.{[], ◌∙◌, ap, sym, unwrap_or}
use Rattle.op_manifest.specs.Trees.{data_of}
use Rattle.op_manifest.proofs.ShapeLemmas.{later_none}
use Rattle.op_manifest.proofs.RowLemmas.{read_table, row, end}
use Rattle.op_manifest.specs.Optional.{above_zero}
use Rattle.kind_rules.specs.RuleTables.{group_rows, group_of}
use Rattle.kind_rules.proofs.group.RuleGroupItem.read.Goals as goal

pub returns : goal.returns
unfolding group_of
returns c = (
  read_table group_rows c.args.path.now (data_of c.args.tree.now) _ _ _ c.in_ok-noted_known.ensures
      (row c.in_ok-name.ensures.0
      (row c.in_ok-interval.ensures.0
      (row (sym (later_none _))
      (row c.in_ok-rules.ensures.0
      end)))),
  λ i. record {
    name = c.in_ok-name.ensures.1 i;
    interval = (c.above_zero.ensures ∙ ap above_zero c.in_ok-interval.ensures.1) i;
    rules = (c.or_none.ensures ∙ ap (λ rules. unwrap_or rules []) c.in_ok-rules.ensures.1) i;
  },
)
