-- The table, row by row.
use Rattle.op_manifest.specs.Trees.{data_of}
use Rattle.op_manifest.proofs.RowLemmas.{read_table, row, end}
use Rattle.kind_scrape.specs.Tls.{tls_rows, tls_of}
use Rattle.kind_scrape.proofs.tls.TlsConfigItem.read.Goals as goal

pub returns : goal.returns
unfolding tls_of
returns c = (
  read_table tls_rows c.args.path.now (data_of c.args.tree.now) _ _ _ c.in_ok-noted_known.ensures
      (row c.in_ok-insecure_skip_verify.ensures.0
      (row c.in_ok-server_name.ensures.0
      (row c.in_ok-ca_file.ensures.0
      (row c.in_ok-cert_file.ensures.0
      (row c.in_ok-key_file.ensures.0
      end))))),
  λ i. record {
    insecure_skip_verify = c.in_ok-insecure_skip_verify.ensures.1 i;
    server_name = c.in_ok-server_name.ensures.1 i;
    ca_file = c.in_ok-ca_file.ensures.1 i;
    cert_file = c.in_ok-cert_file.ensures.1 i;
    key_file = c.in_ok-key_file.ensures.1 i;
  },
)
