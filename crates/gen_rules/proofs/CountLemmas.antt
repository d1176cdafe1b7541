-- With a tree for each rule no rule is lost.
use Rattle.std.proofs.Common.{◌≡◌, ℕ, ◌≤◌, ◌+◌, List, [], ◌∷◌, map, length, drop, Option, refl, ap, ◌∙◌, subst, length-drop, arith}
use Rattle.std.proofs.lemmas.List.{length-map}
use Rattle.std.proofs.lemmas.List.Sums.{sum_by-cons}
use Rattle.std.proofs.lemmas.Slice.Zip.{length-zip}
use Rattle.std.specs.List.{zip}
use Rattle.std.specs.Prelude.{sum}
use Rattle.cfg_types.specs.declared.config.Group.{Group}
use Rattle.cfg_types.specs.declared.config.Rule.{Rule}
use Rattle.kind_rules.specs.declared.group.RuleGroup.{RuleGroup}
use Rattle.kind_rules.specs.declared.rule.Rule.{Rule as WrittenRule}
use Rattle.ql_tree.specs.declared.tree.Expr.{Expr}
use Rattle.gen_rules.specs.RuleFiles.{rule_of, groups_of}

all_kept : (rules : List WrittenRule) (trees : List Expr) (made : WrittenRule × Expr → Rule) → length rules ≤ length trees
    → length (map made (zip rules trees)) ≡ length rules
all_kept rules trees made enough = omega (arith, enough, length-map (zip rules trees) made, length-zip rules trees)

pub counts_kept : (enforced : Option (List ℕ)) (namespace : List ℕ) (groups : List RuleGroup) (trees : List Expr)
    → sum (map (λ (group : RuleGroup). length group.rules) groups) ≤ length trees
    → map (λ (group : Group). length group.rules) (groups_of enforced namespace groups trees)
    ≡ map (λ (group : RuleGroup). length group.rules) groups
counts_kept enforced namespace [] trees enough = refl
counts_kept enforced namespace (group ∷ groups) trees enough =
    let both : length group.rules + sum (map (λ (g : RuleGroup). length g.rules) groups) ≤ length trees =
    subst (λ n. n ≤ length trees) (sum_by-cons (λ (n : ℕ). n) (length group.rules) (map (λ (g : RuleGroup). length g.rules) groups)) enough in
    let own : length group.rules ≤ length trees = omega (arith, both) in
    let rest : sum (map (λ (g : RuleGroup). length g.rules) groups) ≤ length (drop (length group.rules) trees) = omega (arith, both, length-drop (length group.rules) trees) in
    ap (λ n. n ∷ map (λ (g : Group). length g.rules) (groups_of enforced namespace groups (drop (length group.rules) trees)))
    (all_kept group.rules trees (rule_of enforced namespace) own)
    ∙ ap (λ counts. length group.rules ∷ counts) (counts_kept enforced namespace groups (drop (length group.rules) trees) rest)
