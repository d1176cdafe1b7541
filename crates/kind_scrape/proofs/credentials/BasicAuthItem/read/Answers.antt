-- The table, row by row.
use Rattle.op_manifest.specs.Trees.{data_of}
use Rattle.op_manifest.proofs.RowLemmas.{read_table, row, end}
use Rattle.kind_scrape.specs.Credentials.{basic_rows, basic_of}
use Rattle.kind_scrape.proofs.credentials.BasicAuthItem.read.Goals as goal

pub returns : goal.returns
unfolding basic_of
returns c = (
  read_table basic_rows c.args.path.now (data_of c.args.tree.now) _ _ _ c.in_ok-noted_known.ensures
      (row c.in_ok-username.ensures.0
      (row c.in_ok-password.ensures.0
      end)),
  λ i. record {
    username = c.in_ok-username.ensures.1 i;
    password = c.in_ok-password.ensures.1 i;
  },
)
