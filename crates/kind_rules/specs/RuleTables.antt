-- The fields of PrometheusRule objects, after the API reference of `monitoring.coreos.com/v1`: what can be wrong with
-- them in reading order, and what they are read as. A text is kept as it stands, an empty one too; an empty map counts
-- as absent. A `for` of 0 is given, an interval of 0 isn't.
use Rattle.std.specs.Prelude.{List, [], ◌∷◌, codes, unwrap_or}
use Rattle.serde_json.specs.Data.{Data}
use Rattle.op_manifest.specs.Checks.{Row, may, must, ignored, text, span, list, table}
use Rattle.op_manifest.specs.Maps.{texts, map_in}
use Rattle.op_manifest.specs.Values.{text_in, span_in, items_in}
use Rattle.kind_rules.specs.declared.rule.Rule.{Rule}
use Rattle.kind_rules.specs.declared.group.RuleGroup.{RuleGroup}
use Rattle.kind_rules.specs.declared.prometheus_rule_spec.PrometheusRuleSpec.{PrometheusRuleSpec}
use Rattle.kind_rules.specs.Expressions.{expression, expression_in}
use Rattle.op_manifest.specs.Optional.{interval_in}

-- the fields of a rule
abbrev pub rule_rows : List Row
rule_rows =
    may (codes "record") text
    ∷ may (codes "alert") text
    ∷ must (codes "expr") expression
    ∷ may (codes "for") span
    ∷ may (codes "labels") texts
    ∷ may (codes "annotations") texts
    ∷ []

-- a rule
unfoldable pub rule_of : Data → Rule
rule_of d =
    record {
      record_name = text_in (codes "record") d;
      alert_name = text_in (codes "alert") d;
      expr = expression_in (codes "expr") d;
      wait_for = span_in (codes "for") d;
      labels = unwrap_or (map_in (codes "labels") d) [];
      annotations = unwrap_or (map_in (codes "annotations") d) [];
    }

-- the fields of a group
abbrev pub group_rows : List Row
group_rows =
    must (codes "name") text
    ∷ may (codes "interval") span
    ∷ ignored (codes "partial_response_strategy")
    ∷ may (codes "rules") (list (table rule_rows))
    ∷ []

-- a group of rules
unfoldable pub group_of : Data → RuleGroup
group_of d =
    record {
      name = unwrap_or (text_in (codes "name") d) [];
      interval = interval_in (codes "interval") d;
      rules = unwrap_or (items_in rule_of (codes "rules") d) [];
    }

-- the fields of `spec`
abbrev pub prometheus_rule_rows : List Row
prometheus_rule_rows = may (codes "groups") (list (table group_rows)) ∷ []

-- what `spec` is read as
unfoldable pub prometheus_rule_spec_of : Data → PrometheusRuleSpec
prometheus_rule_spec_of d = record { groups = unwrap_or (items_in group_of (codes "groups") d) [] }
