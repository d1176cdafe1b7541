-- The table, row by row.
use Rattle.std.proofs.Common.{[], ◌∙◌, ap, unwrap_or}
use Rattle.op_manifest.specs.Trees.{data_of}
use Rattle.op_manifest.proofs.RowLemmas.{read_table, row, end}
use Rattle.kind_scrape.specs.ProbeTables.{static_rows, static_of}
use Rattle.kind_scrape.proofs.probe_targets.StaticConfigItem.read.Goals as goal

pub returns : goal.returns
unfolding static_of
returns c = (
  read_table static_rows c.args.path.now (data_of c.args.tree.now) _ _ _ c.in_ok-noted_known.ensures
      (row c.in_ok-addresses.ensures.0
      (row c.in_ok-labels.ensures.0
      (row c.in_ok-relabeling_configs.ensures.0
      end))),
  λ i. record {
    addresses = (c.or_none.ensures ∙ ap (λ addresses. unwrap_or addresses []) c.in_ok-addresses.ensures.1) i;
    labels = c.in_ok-labels.ensures.1 i;
    relabeling_configs = c.in_ok-relabeling_configs.ensures.1 i;
  },
)
