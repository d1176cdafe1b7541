-- The table, row by row.
use Rattle.op_manifest.specs.Trees.{data_of}
use Rattle.op_manifest.proofs.RowLemmas.{read_table, row, end}
use Rattle.kind_scrape.specs.ProbeTables.{target_rows, targets_of}
use Rattle.kind_scrape.proofs.probe_targets.ProbeTargetsItem.read.Goals as goal

pub returns : goal.returns
unfolding targets_of
returns c = (
  read_table target_rows c.args.path.now (data_of c.args.tree.now) _ _ _ c.in_ok-noted_known.ensures
      (row c.in_ok-static_config.ensures.0
      end),
  λ i. record { static_config = c.in_ok-static_config.ensures.1 i },
)
