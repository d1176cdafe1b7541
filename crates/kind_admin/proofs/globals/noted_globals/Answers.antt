-- Row by row.
use Rattle.op_manifest.specs.Trees.{data_of}
use Rattle.op_manifest.proofs.RowLemmas.{read_rows, row, end}
use Rattle.kind_admin.specs.PrometheusTables.{global_rows, globals_of}
use Rattle.kind_admin.proofs.globals.noted_globals.Goals as goal

pub returns : goal.returns
unfolding globals_of
returns c = (
  read_rows c.args.path.now (data_of c.args.tree.now) global_rows _ _
      (row c.in_ok-external_labels.ensures.0
      (row c.in_ok-scrape_interval.ensures.0
      (row c.in_ok-scrape_timeout.ensures.0
      (row c.in_ok-evaluation_interval.ensures.0
      end)))),
  λ i. record {
    external_labels = c.in_ok-external_labels.ensures.1 i;
    scrape_interval = c.in_ok-scrape_interval.ensures.1 i;
    scrape_timeout = c.in_ok-scrape_timeout.ensures.1 i;
    evaluation_interval = c.in_ok-evaluation_interval.ensures.1 i;
  },
)
