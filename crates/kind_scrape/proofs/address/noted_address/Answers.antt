-- Row by row.
use Rattle.op_manifest.specs.Trees.{data_of}
use Rattle.op_manifest.proofs.RowLemmas.{read_rows, row, end}
use Rattle.kind_scrape.specs.EndpointTables.{address_rows, address_of}
use Rattle.kind_scrape.proofs.address.noted_address.Goals as goal

pub returns : goal.returns
unfolding address_of
returns c = (
  read_rows c.args.path.now (data_of c.args.tree.now) address_rows _ _
      (row c.in_ok-port.ensures.0
      (row c.in_ok-at.ensures.0
      (row c.in_ok-scheme.ensures.0
      end))),
  λ i. record {
    port = c.in_ok-port.ensures.1 i;
    path = c.in_ok-at.ensures.1 i;
    scheme = c.in_ok-scheme.ensures.1 i;
  },
)
