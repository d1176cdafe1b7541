-- The table, row by row.
use Rattle.std.specs.Prelude.{None}
use Rattle.op_manifest.specs.Trees.{data_of}
use Rattle.op_manifest.proofs.RowLemmas.{read_table, row, end}
use Rattle.kind_scrape.specs.Tls.{pod_tls_rows, pod_tls_of}
use Rattle.kind_scrape.proofs.tls.read_pod_tls.Goals as goal

pub returns : goal.returns
unfolding pod_tls_of
returns c = (
  read_table pod_tls_rows c.args.path.now (data_of c.args.tree.now) _ _ _ c.in_ok-noted_known.ensures
      (row c.in_ok-insecure_skip_verify.ensures.0
      (row c.in_ok-server_name.ensures.0
      end)),
  λ i. record {
    insecure_skip_verify = c.in_ok-insecure_skip_verify.ensures.1 i;
    server_name = c.in_ok-server_name.ensures.1 i;
    ca_file = None;
    cert_file = None;
    key_file = None;
  },
)
