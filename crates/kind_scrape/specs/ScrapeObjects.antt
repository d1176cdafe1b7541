-- What a tenant wants scraped, each object read as its kind: the head of the manifest, then `spec`, which has to stand.
use Rattle.std.specs.Prelude.{Bool, true, false, List, [], ◌++◌, codes, Option, Some}
use Rattle.serde_json.specs.Data.{Data}
use Rattle.op_base.specs.declared.kind.Kind.{Kind}
use Rattle.op_base.specs.declared.kind.Kind.TheVariants.{ServiceMonitor, PodMonitor, Probe}
use Rattle.op_manifest.specs.declared.shape.Shape.{Shape}
use Rattle.op_manifest.specs.Checks.{required, table}
use Rattle.op_manifest.specs.Heads.{head_wrongs, key_of, tags_of}
use Rattle.kind_scrape.specs.declared.object.ScrapeObject.{ScrapeObject}
use Rattle.kind_scrape.specs.declared.object.ScrapeObject.TheVariants as scrape
use Rattle.kind_scrape.specs.declared.pod_monitor.PodMonitorObject.{PodMonitorObject}
use Rattle.kind_scrape.specs.declared.probe.ProbeObject.{ProbeObject}
use Rattle.kind_scrape.specs.declared.service_monitor.ServiceMonitorObject.{ServiceMonitorObject}
use Rattle.kind_scrape.specs.MonitorTables.{service_monitor_rows, service_monitor_spec_of, pod_monitor_rows, pod_monitor_spec_of}
use Rattle.kind_scrape.specs.Needed.{needed_in}
use Rattle.kind_scrape.specs.ProbeTables.{probe_rows, probe_spec_of}

-- all that can be wrong with a ServiceMonitor
abbrev pub service_monitor_wrongs : Data → List Shape
service_monitor_wrongs d = head_wrongs [] d ++ required (table service_monitor_rows) (codes "spec") [] d

-- a ServiceMonitor
abbrev pub service_monitor_of : Data → ServiceMonitorObject
service_monitor_of d =
    record { key = key_of d; tags = tags_of d; spec = needed_in service_monitor_spec_of (codes "spec") d }

-- all that can be wrong with a PodMonitor
abbrev pub pod_monitor_wrongs : Data → List Shape
pod_monitor_wrongs d = head_wrongs [] d ++ required (table pod_monitor_rows) (codes "spec") [] d

-- a PodMonitor
abbrev pub pod_monitor_of : Data → PodMonitorObject
pod_monitor_of d = record { key = key_of d; tags = tags_of d; spec = needed_in pod_monitor_spec_of (codes "spec") d }

-- all that can be wrong with a Probe
abbrev pub probe_wrongs : Data → List Shape
probe_wrongs d = head_wrongs [] d ++ required (table probe_rows) (codes "spec") [] d

-- a Probe
abbrev pub probe_of : Data → ProbeObject
probe_of d = record { key = key_of d; tags = tags_of d; spec = needed_in probe_spec_of (codes "spec") d }

-- the kind is one of these
abbrev pub is_scrape_kind : Option Kind → Bool
is_scrape_kind (Some ServiceMonitor) = true
is_scrape_kind (Some PodMonitor) = true
is_scrape_kind (Some Probe) = true
is_scrape_kind _ = false

-- all that can be wrong with an object of the kind
abbrev pub scrape_wrongs : Option Kind → Data → List Shape
scrape_wrongs (Some ServiceMonitor) d = service_monitor_wrongs d
scrape_wrongs (Some PodMonitor) d = pod_monitor_wrongs d
scrape_wrongs _ d = probe_wrongs d

-- an object of the kind
abbrev pub scrape_of : Option Kind → Data → ScrapeObject
scrape_of (Some ServiceMonitor) d = scrape.Service (service_monitor_of d)
scrape_of (Some PodMonitor) d = scrape.Pod (pod_monitor_of d)
scrape_of _ d = scrape.Probe (probe_of d)
