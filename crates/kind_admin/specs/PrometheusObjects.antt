-- Prometheus objects: the head of the manifest, then `spec`, which has to stand.
use Rattle.std.specs.Prelude.{List, [], ◌++◌, codes, unwrap_or}
use Rattle.serde_json.specs.Data.{Data, null}
use Rattle.op_base.specs.declared.key.Key.{Key}
use Rattle.op_base.specs.Labels.{Texts}
use Rattle.op_manifest.specs.declared.shape.Shape.{Shape}
use Rattle.op_manifest.specs.Checks.{field, required}
use Rattle.op_manifest.specs.Heads.{head_wrongs, key_of, tags_of}
use Rattle.kind_admin.specs.declared.parts.PrometheusParts.{PrometheusParts}
use Rattle.kind_admin.specs.declared.prometheus.PrometheusSpec.{PrometheusSpec}
use Rattle.kind_admin.specs.PrometheusTables.{prometheus_wrongs, parts_of}

-- all that can be wrong with `spec`
abbrev pub spec_wrongs : Data → List Shape
spec_wrongs d = required prometheus_wrongs (codes "spec") [] d

-- what `spec` is read as
abbrev pub spec_parts : Data → PrometheusParts
spec_parts d = parts_of (unwrap_or (field (codes "spec") d) null)

-- all that can be wrong with an object
abbrev pub object_wrongs : Data → List Shape
object_wrongs d = head_wrongs [] d ++ spec_wrongs d

-- the object by its key, its labels and what its `spec` is read as
abbrev pub with_parts : Key → Texts → PrometheusParts → PrometheusSpec
with_parts key tags parts =
    let selecting = parts.selecting in
    let globals = parts.globals in
    let enforcing = parts.enforcing in
    record {
      key = key;
      tags = tags;
      service_monitor_selector = selecting.service_monitors.objects;
      service_monitor_namespace_selector = selecting.service_monitors.namespaces;
      pod_monitor_selector = selecting.pod_monitors.objects;
      pod_monitor_namespace_selector = selecting.pod_monitors.namespaces;
      probe_selector = selecting.probes.objects;
      probe_namespace_selector = selecting.probes.namespaces;
      rule_selector = selecting.rules.objects;
      rule_namespace_selector = selecting.rules.namespaces;
      external_labels = globals.external_labels;
      scrape_interval = globals.scrape_interval;
      scrape_timeout = globals.scrape_timeout;
      evaluation_interval = globals.evaluation_interval;
      enforced_namespace_label = enforcing.namespace_label;
      enforced_label_error_on_replace = enforcing.label_error_on_replace;
      ignore_namespace_selectors = enforcing.ignore_namespace_selectors;
      override_honor_labels = enforcing.override_honor_labels;
      file_access = enforcing.file_access;
      enforced_sample_limit = enforcing.sample_limit;
      excluded_from_enforcement = enforcing.excluded;
    }

-- an object
abbrev pub prometheus_of : Data → PrometheusSpec
prometheus_of d = with_parts (key_of d) (tags_of d) (spec_parts d)
