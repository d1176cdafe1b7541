-- How a scrape checks its targets by TLS, and with which files.
use Rattle.std.specs.Prelude.{List, [], ◌∷◌, ◌++◌, codes, None}
use Rattle.serde_json.specs.Data.{Data}
use Rattle.op_manifest.specs.Checks.{Row, may, flag, text}
use Rattle.op_manifest.specs.Values.{text_in, flag_in}
use Rattle.kind_scrape.specs.declared.tls.TlsConfig.{TlsConfig}

-- the fields that name no file
abbrev pub pod_tls_rows : List Row
pod_tls_rows =
    may (codes "insecureSkipVerify") flag
    ∷ may (codes "serverName") text
    ∷ []

-- the fields that name files
abbrev pub file_rows : List Row
file_rows =
    may (codes "caFile") text
    ∷ may (codes "certFile") text
    ∷ may (codes "keyFile") text
    ∷ []

-- all fields
abbrev pub tls_rows : List Row
tls_rows = pod_tls_rows ++ file_rows

-- what is given of them, no file being named
unfoldable pub pod_tls_of : Data → TlsConfig
pod_tls_of d =
    record {
      insecure_skip_verify = flag_in (codes "insecureSkipVerify") d;
      server_name = text_in (codes "serverName") d;
      ca_file = None;
      cert_file = None;
      key_file = None;
    }

-- what is given of them
unfoldable pub tls_of : Data → TlsConfig
tls_of d =
    record {
      insecure_skip_verify = flag_in (codes "insecureSkipVerify") d;
      server_name = text_in (codes "serverName") d;
      ca_file = text_in (codes "caFile") d;
      cert_file = text_in (codes "certFile") d;
      key_file = text_in (codes "keyFile") d;
    }
