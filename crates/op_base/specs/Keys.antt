-- Object keys and their texts, as report lines write them.
use Rattle.std.specs.Prelude.{ℕ, List, ◌++◌, codes}
use Rattle.op_base.specs.declared.kind.Kind.{Kind}
use Rattle.op_base.specs.declared.kind.Kind.TheVariants.{ServiceMonitor, PodMonitor, Probe, PrometheusRule, AlertmanagerConfig, Secret, Namespace, Prometheus, Alertmanager}
use Rattle.op_base.specs.declared.key.Key.{Key}

-- the name that manifests spell
abbrev pub kind_name : Kind → List ℕ
kind_name ServiceMonitor = codes "ServiceMonitor"
kind_name PodMonitor = codes "PodMonitor"
kind_name Probe = codes "Probe"
kind_name PrometheusRule = codes "PrometheusRule"
kind_name AlertmanagerConfig = codes "AlertmanagerConfig"
kind_name Secret = codes "Secret"
kind_name Namespace = codes "Namespace"
kind_name Prometheus = codes "Prometheus"
kind_name Alertmanager = codes "Alertmanager"

-- KIND/NAMESPACE/NAME
abbrev pub key_text : Key → List ℕ
key_text key = kind_name key.kind ++ codes "/" ++ key.namespace ++ codes "/" ++ key.name
