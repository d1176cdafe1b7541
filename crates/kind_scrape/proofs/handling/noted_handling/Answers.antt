-- Row by row.
use Rattle.op_manifest.specs.Trees.{data_of}
use Rattle.op_manifest.proofs.RowLemmas.{read_rows, row, end}
use Rattle.kind_scrape.specs.EndpointTables.{handling_rows, handling_of}
use Rattle.kind_scrape.proofs.handling.noted_handling.Goals as goal

pub returns : goal.returns
unfolding handling_of
returns c = (
  read_rows c.args.path.now (data_of c.args.tree.now) handling_rows _ _
      (row c.in_ok-honor_labels.ensures.0
      (row c.in_ok-honor_timestamps.ensures.0
      end)),
  λ i. record {
    honor_labels = c.in_ok-honor_labels.ensures.1 i;
    honor_timestamps = c.in_ok-honor_timestamps.ensures.1 i;
  },
)
