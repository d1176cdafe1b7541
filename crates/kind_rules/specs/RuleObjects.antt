-- A tenant's rules and routes, each object read as its kind.
use Rattle.std.specs.Prelude.{Bool, true, false, List, Option, Some}
use Rattle.serde_json.specs.Data.{Data}
use Rattle.op_base.specs.declared.kind.Kind.{Kind}
use Rattle.op_base.specs.declared.kind.Kind.TheVariants.{PrometheusRule, AlertmanagerConfig}
use Rattle.op_manifest.specs.declared.shape.Shape.{Shape}
use Rattle.kind_rules.specs.declared.object.RuleObject.{RuleObject}
use Rattle.kind_rules.specs.declared.object.RuleObject.TheVariants.{Rules, Routes}
use Rattle.kind_rules.specs.AlertmanagerConfigs.{alertmanager_config_wrongs, alertmanager_config_of}
use Rattle.kind_rules.specs.PrometheusRules.{prometheus_rule_wrongs, prometheus_rule_of}

-- the kind is one of these
abbrev pub is_rule_kind : Option Kind → Bool
is_rule_kind (Some PrometheusRule) = true
is_rule_kind (Some AlertmanagerConfig) = true
is_rule_kind _ = false

-- all that can be wrong with an object of the kind
abbrev pub rules_wrongs : Option Kind → Data → List Shape
rules_wrongs (Some PrometheusRule) d = prometheus_rule_wrongs d
rules_wrongs _ d = alertmanager_config_wrongs d

-- an object of the kind
abbrev pub rules_of : Option Kind → Data → RuleObject
rules_of (Some PrometheusRule) d = Rules (prometheus_rule_of d)
rules_of _ d = Routes (alertmanager_config_of d)
