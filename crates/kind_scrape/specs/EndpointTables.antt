-- The fields of an endpoint, after the API reference of `monitoring.coreos.com/v1`: what can be wrong with them in reading
-- order, and what they are read as. A text is kept as it stands, an empty one too; an interval or a timeout of 0 counts
-- as absent. An endpoint of a PodMonitor names no file.
use Rattle.std.specs.Prelude.{ℕ, Bool, ◌&&◌, nat_le, length, List, [], ◌∷◌, ◌++◌, Option, Some, None, codes, bytes_eq, is_some, option_and_then, unwrap_or, if◌then◌else◌}
use Rattle.std.specs.List.{list_all}
use Rattle.serde_json.specs.Data.{Data}
use Rattle.serde_json.specs.Find.{as_str}
use Rattle.op_base.specs.Names.{is_part_byte}
use Rattle.op_manifest.specs.declared.shape.TheConstants.ShapeRule.{BAD_NAME, BAD_CHOICE}
use Rattle.op_manifest.specs.Checks.{Check, Row, may, text, flag, span, worded, table}
use Rattle.op_manifest.specs.Optional.{interval_in, is_set}
use Rattle.op_manifest.specs.Parts.{item_in}
use Rattle.op_manifest.specs.Values.{text_in, flag_in}
use Rattle.kind_scrape.specs.declared.address.Address.{Address}
use Rattle.kind_scrape.specs.declared.endpoint.Endpoint.{Endpoint}
use Rattle.kind_scrape.specs.declared.endpoint.PodEndpoint.{PodEndpoint}
use Rattle.kind_scrape.specs.declared.handling.Handling.{Handling}
use Rattle.kind_scrape.specs.declared.handling.Timing.{Timing}
use Rattle.kind_scrape.specs.declared.scheme.Scheme.{Scheme}
use Rattle.kind_scrape.specs.declared.scheme.Scheme.TheVariants.{Http, Https}
use Rattle.kind_scrape.specs.Credentials.{credential_rows, credentials_of, secret_rows, secrets_of}
use Rattle.kind_scrape.specs.Params.{params, params_in}
use Rattle.kind_scrape.specs.Relabelings.{steps, steps_in}
use Rattle.kind_scrape.specs.Tls.{tls_rows, tls_of, pod_tls_rows, pod_tls_of}

-- the name of a port: 1 to 63 lower-case letters, digits and `-`
abbrev pub is_port_name : List ℕ → Bool
is_port_name text = nat_le 1 (length text) && nat_le (length text) 63 && list_all is_part_byte text

-- the scheme of a word
unfoldable pub scheme_named : List ℕ → Option Scheme
scheme_named word =
    if bytes_eq word (codes "http") then Some Http
    else if bytes_eq word (codes "https") then Some Https
    else None

-- the word is a scheme's
abbrev pub is_scheme : List ℕ → Bool
is_scheme word = is_some (scheme_named word)

-- a scheme
abbrev pub scheme : Check
scheme = worded BAD_CHOICE is_scheme

-- the scheme that a value is, or `http`
abbrev pub scheme_of : Data → Scheme
scheme_of d = unwrap_or (option_and_then scheme_named (as_str d)) Http

-- the scheme of a field, or `http`
abbrev pub scheme_in : List ℕ → Data → Scheme
scheme_in name d = unwrap_or (item_in scheme_of name d) Http

-- where a target is scraped
abbrev pub address_rows : List Row
address_rows =
    may (codes "port") (worded BAD_NAME is_port_name)
    ∷ may (codes "path") text
    ∷ may (codes "scheme") scheme
    ∷ []

-- where a target is scraped
unfoldable pub address_of : Data → Address
address_of d =
    record {
      port = text_in (codes "port") d;
      path = unwrap_or (text_in (codes "path") d) (codes "/metrics");
      scheme = scheme_in (codes "scheme") d;
    }

-- how often is scraped, and how long a scrape may take
abbrev pub timing_rows : List Row
timing_rows =
    may (codes "interval") span
    ∷ may (codes "scrapeTimeout") span
    ∷ []

-- how often is scraped, and how long a scrape may take
unfoldable pub timing_of : Data → Timing
timing_of d = record { interval = interval_in (codes "interval") d; scrape_timeout = interval_in (codes "scrapeTimeout") d }

-- what is done with scraped labels and moments
abbrev pub handling_rows : List Row
handling_rows =
    may (codes "honorLabels") flag
    ∷ may (codes "honorTimestamps") flag
    ∷ []

-- what is done with scraped labels and moments
unfoldable pub handling_of : Data → Handling
handling_of d =
    record {
      honor_labels = is_set (codes "honorLabels") d;
      honor_timestamps = flag_in (codes "honorTimestamps") d;
    }

-- the steps for targets, and those for samples
abbrev pub relabelling_rows : List Row
relabelling_rows =
    may (codes "relabelings") steps
    ∷ may (codes "metricRelabelings") steps
    ∷ []

-- the fields in front of the credentials
abbrev pub scrape_rows : List Row
scrape_rows = address_rows ++ may (codes "params") params ∷ timing_rows ++ handling_rows

-- the fields of an endpoint of a ServiceMonitor
abbrev pub endpoint_rows : List Row
endpoint_rows = scrape_rows ++ credential_rows ++ may (codes "tlsConfig") (table tls_rows) ∷ relabelling_rows

-- the fields of an endpoint of a PodMonitor
abbrev pub pod_endpoint_rows : List Row
pod_endpoint_rows = scrape_rows ++ secret_rows ++ may (codes "tlsConfig") (table pod_tls_rows) ∷ relabelling_rows

-- an endpoint of a ServiceMonitor
unfoldable pub endpoint_of : Data → Endpoint
endpoint_of d =
    record {
      address = address_of d;
      params = params_in (codes "params") d;
      timing = timing_of d;
      handling = handling_of d;
      credentials = credentials_of d;
      tls_config = item_in tls_of (codes "tlsConfig") d;
      relabelings = steps_in (codes "relabelings") d;
      metric_relabelings = steps_in (codes "metricRelabelings") d;
    }

-- an endpoint of a PodMonitor
unfoldable pub pod_endpoint_of : Data → PodEndpoint
pod_endpoint_of d =
    record {
      endpoint = record {
        address = address_of d;
        params = params_in (codes "params") d;
        timing = timing_of d;
        handling = handling_of d;
        credentials = secrets_of d;
        tls_config = item_in pod_tls_of (codes "tlsConfig") d;
        relabelings = steps_in (codes "relabelings") d;
        metric_relabelings = steps_in (codes "metricRelabelings") d;
      };
    }
