-- The fields of `spec` of ServiceMonitors and PodMonitors, after the API reference of `monitoring.coreos.com/v1`: what can
-- be wrong with them in reading order, and what they are read as.
use Rattle.std.specs.Prelude.{List, [], ◌∷◌, codes, unwrap_or}
use Rattle.serde_json.specs.Data.{Data}
use Rattle.op_manifest.specs.Checks.{Row, may, must, text, whole, list, table}
use Rattle.op_manifest.specs.Namespaces.{namespaces_rows, namespaces_of}
use Rattle.op_manifest.specs.Parts.{item_in}
use Rattle.op_manifest.specs.Selectors.{selector, selector_of}
use Rattle.op_manifest.specs.Values.{text_of, text_in, number_in, items_in}
use Rattle.kind_scrape.specs.declared.pod_monitor_spec.PodMonitorSpec.{PodMonitorSpec}
use Rattle.kind_scrape.specs.declared.service_monitor_spec.ServiceMonitorSpec.{ServiceMonitorSpec}
use Rattle.kind_scrape.specs.EndpointTables.{endpoint_rows, endpoint_of, pod_endpoint_rows, pod_endpoint_of}
use Rattle.kind_scrape.specs.Needed.{needed_in}
use Rattle.kind_scrape.specs.TargetLabels.{target_labels}

-- the fields of a ServiceMonitor
abbrev pub service_monitor_rows : List Row
service_monitor_rows =
    may (codes "jobLabel") text
    ∷ may (codes "targetLabels") target_labels
    ∷ must (codes "endpoints") (list (table endpoint_rows))
    ∷ must (codes "selector") selector
    ∷ may (codes "namespaceSelector") (table namespaces_rows)
    ∷ may (codes "sampleLimit") whole
    ∷ []

-- what they are read as
unfoldable pub service_monitor_spec_of : Data → ServiceMonitorSpec
service_monitor_spec_of d =
    record {
      job_label = text_in (codes "jobLabel") d;
      target_labels = unwrap_or (items_in text_of (codes "targetLabels") d) [];
      endpoints = unwrap_or (items_in endpoint_of (codes "endpoints") d) [];
      selector = needed_in selector_of (codes "selector") d;
      namespace_selector = item_in namespaces_of (codes "namespaceSelector") d;
      sample_limit = number_in (codes "sampleLimit") d;
    }

-- the fields of a PodMonitor
abbrev pub pod_monitor_rows : List Row
pod_monitor_rows =
    may (codes "jobLabel") text
    ∷ may (codes "podTargetLabels") target_labels
    ∷ must (codes "podMetricsEndpoints") (list (table pod_endpoint_rows))
    ∷ must (codes "selector") selector
    ∷ may (codes "namespaceSelector") (table namespaces_rows)
    ∷ may (codes "sampleLimit") whole
    ∷ []

-- what they are read as
unfoldable pub pod_monitor_spec_of : Data → PodMonitorSpec
pod_monitor_spec_of d =
    record {
      job_label = text_in (codes "jobLabel") d;
      pod_target_labels = unwrap_or (items_in text_of (codes "podTargetLabels") d) [];
      pod_metrics_endpoints = unwrap_or (items_in pod_endpoint_of (codes "podMetricsEndpoints") d) [];
      selector = needed_in selector_of (codes "selector") d;
      namespace_selector = item_in namespaces_of (codes "namespaceSelector") d;
      sample_limit = number_in (codes "sampleLimit") d;
    }
