-- The fields of `spec` of Probes, after the API reference of `monitoring.coreos.com/v1`: what can be wrong with them in
-- reading order, and what they are read as.
use Rattle.std.specs.Prelude.{List, [], ◌∷◌, ◌++◌, codes, unwrap_or}
use Rattle.serde_json.specs.Data.{Data}
use Rattle.op_manifest.specs.Checks.{Row, may, must, text, whole, list, table}
use Rattle.op_manifest.specs.Maps.{labels, map_in}
use Rattle.op_manifest.specs.Parts.{item_in}
use Rattle.op_manifest.specs.Values.{text_of, text_in, number_in, items_in}
use Rattle.kind_scrape.specs.declared.probe_spec.ProbeSpec.{ProbeSpec}
use Rattle.kind_scrape.specs.declared.probe_targets.ProbeTargets.{ProbeTargets}
use Rattle.kind_scrape.specs.declared.probe_targets.StaticConfig.{StaticConfig}
use Rattle.kind_scrape.specs.declared.prober.Prober.{Prober}
use Rattle.kind_scrape.specs.Credentials.{secret_rows, secrets_of}
use Rattle.kind_scrape.specs.EndpointTables.{scheme, scheme_in, timing_rows, timing_of}
use Rattle.kind_scrape.specs.Needed.{needed_in}
use Rattle.kind_scrape.specs.Relabelings.{steps, steps_in}

-- the fields of the prober
abbrev pub prober_rows : List Row
prober_rows =
    must (codes "url") text
    ∷ may (codes "scheme") scheme
    ∷ may (codes "path") text
    ∷ []

-- the prober
unfoldable pub prober_of : Data → Prober
prober_of d =
    record {
      url = unwrap_or (text_in (codes "url") d) [];
      scheme = scheme_in (codes "scheme") d;
      path = unwrap_or (text_in (codes "path") d) (codes "/probe");
    }

-- the fields of static targets
abbrev pub static_rows : List Row
static_rows =
    may (codes "static") (list text)
    ∷ may (codes "labels") labels
    ∷ may (codes "relabelingConfigs") steps
    ∷ []

-- static targets
unfoldable pub static_of : Data → StaticConfig
static_of d =
    record {
      addresses = unwrap_or (items_in text_of (codes "static") d) [];
      labels = unwrap_or (map_in (codes "labels") d) [];
      relabeling_configs = steps_in (codes "relabelingConfigs") d;
    }

-- the fields of the targets
abbrev pub target_rows : List Row
target_rows = may (codes "staticConfig") (table static_rows) ∷ []

-- the targets
unfoldable pub targets_of : Data → ProbeTargets
targets_of d = record { static_config = item_in static_of (codes "staticConfig") d }

-- what is asked of whom
abbrev pub asked_rows : List Row
asked_rows =
    may (codes "jobName") text
    ∷ must (codes "prober") (table prober_rows)
    ∷ may (codes "module") text
    ∷ may (codes "targets") (table target_rows)
    ∷ []

-- the fields of a Probe
abbrev pub probe_rows : List Row
probe_rows =
    asked_rows ++ timing_rows ++ may (codes "metricRelabelings") steps ∷ secret_rows ++ may (codes "sampleLimit") whole ∷ []

-- what they are read as
unfoldable pub probe_spec_of : Data → ProbeSpec
probe_spec_of d =
    record {
      job_name = text_in (codes "jobName") d;
      prober = needed_in prober_of (codes "prober") d;
      module_name = text_in (codes "module") d;
      targets = item_in targets_of (codes "targets") d;
      timing = timing_of d;
      metric_relabelings = steps_in (codes "metricRelabelings") d;
      credentials = secrets_of d;
      sample_limit = number_in (codes "sampleLimit") d;
    }
