-- The rule file of a PrometheusRule object, after the reference of the Prometheus Operator. The name of the enforced
-- label stands where the object is enforced; its value is the object's namespace. There is a tree for each rule's
-- expression, in the object's order.
use Rattle.std.specs.Prelude.{ℕ, List, [], ◌∷◌, Option, Some, None, length, drop, map, sum, unwrap_or}
use Rattle.std.specs.List.{zip}
use Rattle.op_base.specs.Labels.{Texts}
use Rattle.op_base.specs.Maps.{with_entry}
use Rattle.cfg_types.specs.declared.config.RuleFile.{RuleFile}
use Rattle.cfg_types.specs.declared.config.Group.{Group}
use Rattle.cfg_types.specs.declared.config.Rule.{Rule}
use Rattle.kind_rules.specs.declared.group.RuleGroup.{RuleGroup}
use Rattle.kind_rules.specs.declared.prometheus_rule.PrometheusRuleObject.{PrometheusRuleObject}
use Rattle.kind_rules.specs.declared.rule.Rule.{Rule as WrittenRule}
use Rattle.ql_tree.specs.Enforced.{enforced as enforced_tree}
use Rattle.ql_tree.specs.declared.tree.Expr.{Expr}

-- where the object is enforced, each selector of the expression asks for entries of the object's namespace
abbrev pub expr_of : Option (List ℕ) → List ℕ → Expr → Expr
expr_of None namespace tree = tree
expr_of (Some label) namespace tree = enforced_tree label namespace tree

-- the labels as they are written, and where the object is enforced the enforced one over any of its name
abbrev pub labels_of : Option (List ℕ) → List ℕ → Texts → Texts
labels_of None namespace labels = labels
labels_of (Some label) namespace labels = with_entry labels label namespace

-- a recording rule, of the rule as it is written and the tree of its expression
abbrev pub rule_of : Option (List ℕ) → List ℕ → WrittenRule × Expr → Rule
rule_of enforced namespace rule = record {
  name = unwrap_or rule.0.record_name [];
  expr = expr_of enforced namespace rule.1;
  labels = labels_of enforced namespace rule.0.labels;
}

-- a group; its trees are those that stand first
abbrev pub group_of : Option (List ℕ) → List ℕ → RuleGroup → List Expr → Group
group_of enforced namespace group trees = record {
  name = group.name;
  rules = map (rule_of enforced namespace) (zip group.rules trees);
}

-- the groups in order, the trees of one behind those of the others before it
abbrev pub groups_of : Option (List ℕ) → List ℕ → List RuleGroup → List Expr → List Group
groups_of enforced namespace [] trees = []
groups_of enforced namespace (group ∷ groups) trees =
    group_of enforced namespace group trees ∷ groups_of enforced namespace groups (drop (length group.rules) trees)

-- the rule file of an object, under the object's namespace and name
abbrev pub rule_file_of : Option (List ℕ) → PrometheusRuleObject → List Expr → RuleFile
rule_file_of enforced object trees = record {
  namespace = object.key.namespace;
  name = object.key.name;
  groups = groups_of enforced object.key.namespace object.groups trees;
}

-- how many rules each group of an object has
abbrev pub rule_counts : PrometheusRuleObject → List ℕ
rule_counts object = map (λ group. length group.rules) object.groups

-- how many rules an object has
abbrev pub rule_count : PrometheusRuleObject → ℕ
rule_count object = sum (rule_counts object)

-- how many rules each group of a rule file has
abbrev pub file_counts : RuleFile → List ℕ
file_counts file = map (λ group. length group.rules) file.groups
