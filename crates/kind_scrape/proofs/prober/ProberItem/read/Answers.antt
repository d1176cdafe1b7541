-- The table, row by row.
use Rattle.op_manifest.specs.Trees.{data_of}
use Rattle.op_manifest.proofs.RowLemmas.{read_table, row, end}
use Rattle.kind_scrape.specs.ProbeTables.{prober_rows, prober_of}
use Rattle.kind_scrape.proofs.prober.ProberItem.read.Goals as goal

pub returns : goal.returns
unfolding prober_of
returns c = (
  read_table prober_rows c.args.path.now (data_of c.args.tree.now) _ _ _ c.in_ok-noted_known.ensures
      (row c.in_ok-url.ensures.0
      (row c.in_ok-scheme.ensures.0
      (row c.in_ok-at.ensures.0
      end))),
  λ i. record {
    url = c.in_ok-url.ensures.1 i;
    scheme = c.in_ok-scheme.ensures.1 i;
    path = c.in_ok-at.ensures.1 i;
  },
)
