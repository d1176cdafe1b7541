-- The table, row by row.
use Rattle.std.proofs.Common.{◌∙◌, ap}
use Rattle.op_manifest.specs.Trees.{data_of}
use Rattle.op_manifest.proofs.RowLemmas.{read_table, row, end}
use Rattle.kind_admin.specs.AlertmanagerTables.{strategy_rows, strategy_of, strategy_or_default}
use Rattle.kind_admin.proofs.strategy.MatcherStrategyItem.read.Goals as goal

pub returns : goal.returns
unfolding strategy_of
returns c = (
  read_table strategy_rows c.args.path.now (data_of c.args.tree.now) _ _ _ c.in_ok-noted_known.ensures
      (row c.in_ok-word.ensures.0
      end),
  c.strategy_or_default.ensures ∙ ap strategy_or_default c.in_ok-word.ensures.1,
)
