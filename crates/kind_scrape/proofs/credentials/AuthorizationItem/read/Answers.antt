-- The table, row by row.
use Rattle.op_manifest.specs.Trees.{data_of}
use Rattle.op_manifest.proofs.RowLemmas.{read_table, row, end}
use Rattle.kind_scrape.specs.Credentials.{authorization_rows, authorization_of}
use Rattle.kind_scrape.proofs.credentials.AuthorizationItem.read.Goals as goal

pub returns : goal.returns
unfolding authorization_of
returns c = (
  read_table authorization_rows c.args.path.now (data_of c.args.tree.now) _ _ _ c.in_ok-noted_known.ensures
      (row c.in_ok-sort.ensures.0
      (row c.in_ok-credentials.ensures.0
      end)),
  λ i. record {
    sort = c.in_ok-sort.ensures.1 i;
    credentials = c.in_ok-credentials.ensures.1 i;
  },
)
