-- The table, row by row.
use Rattle.op_manifest.specs.Trees.{data_of}
use Rattle.op_manifest.proofs.RowLemmas.{read_table, row, end}
use Rattle.kind_admin.specs.PrometheusTables.{access_rows, access_of}
use Rattle.kind_admin.proofs.file_access.FileAccessItem.read.Goals as goal

pub returns : goal.returns
unfolding access_of
returns c = (
  read_table access_rows c.args.path.now (data_of c.args.tree.now) _ _ _ c.in_ok-noted_known.ensures
      (row c.in_ok-deny.ensures.0
      end),
  λ i. record { deny = c.in_ok-deny.ensures.1 i },
)
