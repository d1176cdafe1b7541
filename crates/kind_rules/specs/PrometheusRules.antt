-- PrometheusRule objects: the head of the manifest, then `spec`, which has to stand.
use Rattle.std.specs.Prelude.{List, [], ◌++◌, codes, unwrap_or}
use Rattle.serde_json.specs.Data.{Data, null}
use Rattle.op_manifest.specs.declared.shape.Shape.{Shape}
use Rattle.op_manifest.specs.Checks.{field, required, table}
use Rattle.op_manifest.specs.Heads.{head_wrongs, key_of, tags_of}
use Rattle.kind_rules.specs.declared.prometheus_rule.PrometheusRuleObject.{PrometheusRuleObject}
use Rattle.kind_rules.specs.declared.prometheus_rule_spec.PrometheusRuleSpec.{PrometheusRuleSpec}
use Rattle.kind_rules.specs.RuleTables.{prometheus_rule_rows, prometheus_rule_spec_of}

-- all that can be wrong with `spec`
abbrev pub spec_wrongs : Data → List Shape
spec_wrongs d = required (table prometheus_rule_rows) (codes "spec") [] d

-- what `spec` is read as
abbrev pub spec_of : Data → PrometheusRuleSpec
spec_of d = prometheus_rule_spec_of (unwrap_or (field (codes "spec") d) null)

-- all that can be wrong with an object
abbrev pub prometheus_rule_wrongs : Data → List Shape
prometheus_rule_wrongs d = head_wrongs [] d ++ spec_wrongs d

-- an object
abbrev pub prometheus_rule_of : Data → PrometheusRuleObject
prometheus_rule_of d = record { key = key_of d; tags = tags_of d; groups = (spec_of d).groups }
