-- The table, part by part.
use Rattle.std.specs.Prelude.{codes}
use Rattle.op_manifest.specs.Checks.{may, table}
use Rattle.op_manifest.specs.Trees.{data_of}
use Rattle.kind_scrape.specs.Credentials.{credential_rows}
use Rattle.kind_scrape.specs.Tls.{tls_rows}
use Rattle.kind_scrape.specs.EndpointTables.{endpoint_of}
use Rattle.kind_scrape.proofs.EndpointLemmas.{endpoint_read}
use Rattle.kind_scrape.proofs.endpoint.EndpointItem.read.Goals as goal

pub returns : goal.returns
unfolding endpoint_of
returns c = (
  endpoint_read credential_rows (may (codes "tlsConfig") (table tls_rows)) c.args.path.now (data_of c.args.tree.now) _ _ _ _ _ _ _ _ _ _
      c.in_ok-noted_known.ensures
      c.in_ok-address.ensures.0
      c.in_ok-params.ensures.0
      c.in_ok-timing.ensures.0
      c.in_ok-handling.ensures.0
      c.in_ok-credentials.ensures.0
      c.in_ok-tls_config.ensures.0
      c.in_ok-relabelings.ensures.0
      c.in_ok-metric_relabelings.ensures.0,
  λ i. record {
    address = c.in_ok-address.ensures.1 i;
    params = c.in_ok-params.ensures.1 i;
    timing = c.in_ok-timing.ensures.1 i;
    handling = c.in_ok-handling.ensures.1 i;
    credentials = c.in_ok-credentials.ensures.1 i;
    tls_config = c.in_ok-tls_config.ensures.1 i;
    relabelings = c.in_ok-relabelings.ensures.1 i;
    metric_relabelings = c.in_ok-metric_relabelings.ensures.1 i;
  },
)
