-- Thin rules: a PrometheusRule object with one group of one recording rule.
use Rattle.std.specs.Prelude.{ℕ, List, [], ◌∷◌, Option, codes, option_and_then}
use Rattle.serde_json.specs.Data.{Data}
use Rattle.serde_json.specs.Find.{get}
use Rattle.op_base.specs.Names.{is_metric_name}
use Rattle.op_thin.specs.declared.rule.ThinRule.{ThinRule}
use Rattle.op_thin.specs.Judged.{judged}
use Rattle.op_thin.specs.ThinFields.{both, checked, text_at, with_only, only_item_at, names_of, object_of_kind}

-- a rule: exactly the metric name `record` and a text `expr`
abbrev pub rule_of : Data → Option (List ℕ × List ℕ)
rule_of d = option_and_then (λ rule. both (λ recorded expr. (recorded, expr))
    (checked is_metric_name (text_at (codes "record") rule))
    (text_at (codes "expr") rule))
    (with_only (codes "expr" ∷ codes "record" ∷ []) d)

-- a group: exactly a text `name` and a list `rules` of one rule
abbrev pub group_of : Data → Option (List ℕ × (List ℕ × List ℕ))
group_of d = option_and_then (λ group. both (λ name rule. (name, rule))
    (text_at (codes "name") group)
    (option_and_then rule_of (only_item_at (codes "rules") group)))
    (with_only (codes "name" ∷ codes "rules" ∷ []) d)

-- `spec`: exactly a list `groups` of one group
abbrev pub spec_of : Data → Option (List ℕ × (List ℕ × List ℕ))
spec_of d = option_and_then (λ spec. option_and_then group_of (only_item_at (codes "groups") spec))
    (with_only (codes "groups" ∷ []) d)

-- the rule of a namespace and a name, of a group's name, the name that it records and its expression
abbrev pub rule_from : List ℕ × List ℕ → List ℕ × (List ℕ × List ℕ) → ThinRule
rule_from names group = record {
  namespace = names.0;
  name = names.1;
  group = group.0;
  record_name = group.1.0;
  expr = group.1.1;
  judged = judged group.1.1;
}

-- the thin rule that a JSON value is
abbrev pub thin_rule_of : Data → Option ThinRule
thin_rule_of d = option_and_then (λ object. both rule_from
    (option_and_then names_of (get (codes "metadata") object))
    (option_and_then spec_of (get (codes "spec") object)))
    (object_of_kind (codes "PrometheusRule") d)
