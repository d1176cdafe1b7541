-- Row by row.
use Rattle.std.proofs.Common.{◌∙◌, ap}
use Rattle.op_manifest.specs.Optional.{above_zero}
use Rattle.op_manifest.specs.Trees.{data_of}
use Rattle.op_manifest.proofs.RowLemmas.{read_rows, row, end}
use Rattle.kind_scrape.specs.EndpointTables.{timing_rows, timing_of}
use Rattle.kind_scrape.proofs.handling.noted_timing.Goals as goal

pub returns : goal.returns
unfolding timing_of
returns c = (
  read_rows c.args.path.now (data_of c.args.tree.now) timing_rows _ _
      (row c.in_ok-every.ensures.0
      (row c.in_ok-within.ensures.0
      end)),
  λ i. record {
    interval = (c.above_zero-interval.ensures ∙ ap above_zero c.in_ok-every.ensures.1) i;
    scrape_timeout = (c.above_zero-scrape_timeout.ensures ∙ ap above_zero c.in_ok-within.ensures.1) i;
  },
)
