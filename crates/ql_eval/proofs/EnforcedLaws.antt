-- Enforcement of a label, and the value of what it gives: each node but the selector is the same function of
-- its operands on both sides, and the selector gives the same.
use Rattle.std.proofs.Common.{◌≡◌, ℕ, false, List, [], ◌∷◌, bytes_eq, map, refl, sym, ap, ap₂, subst, ◌∙◌}
use Rattle.op_base.specs.declared.moment.Moment.{Moment}
use Rattle.op_base.specs.declared.label_names.TheConstants.{METRIC_NAME, NAMESPACE_LABEL}
use Rattle.srv_store.specs.Stores.{Store}
use Rattle.ql_tree.specs.Enforced.{enforced, enforced_matchers, enforce_step}
use Rattle.ql_tree.specs.declared.tree.Expr.{Expr}
use Rattle.ql_tree.specs.declared.tree.Expr.TheOpen.{Expr-F}
use Rattle.ql_tree.specs.declared.tree.Expr.TheViews.{roll-Expr}
use Rattle.ql_tree.specs.declared.tree.Expr.TheFolds.{map-Expr, fold-roll-Expr, ind-Expr}
use Rattle.ql_tree.specs.declared.tree.Expr.TheVariants as expr
use Rattle.ql_call.specs.Operands.{outcome_of}
use Rattle.ql_call.specs.declared.operand.Operand.{Operand}
use Rattle.ql_eval.specs.Enforcement.{IsEnforcedAlike}
use Rattle.ql_eval.specs.Values.{Around, whole, operand_step, operand_of, value_of}
use Rattle.ql_eval.proofs.MatcherLemmas.{label}
use Rattle.ql_eval.proofs.SelectorLemmas.{labelled, selected-alike}

-- the entries that have a label, with the label ambient
abbrev pub around_own : List ℕ → List ℕ → Store → Moment → Around
around_own name value store t = record { store = labelled name value store; ambient = label name value; at = t }

module _ (name value : List ℕ) where
  -- a node whose own matchers are enforced
  abbrev layer : Expr-F Expr → Expr-F Expr
  layer (Expr-F.Select metric matchers range offset) = Expr-F.Select metric (enforced_matchers name value matchers) range offset
  layer node = node

  -- the step of enforcement gives the tree of that node
  steps : (node : Expr-F Expr) → enforce_step name value node ≡ roll-Expr (layer node)
  steps (Expr-F.Number n) = sym (expr.rolls-Number n)
  steps (Expr-F.Str text) = sym (expr.rolls-Str text)
  steps (Expr-F.Select metric matchers range offset) = sym (expr.rolls-Select metric (enforced_matchers name value matchers) range offset)
  steps (Expr-F.Unary minus of) = sym (expr.rolls-Unary minus of)
  steps (Expr-F.Binary op boolean m left right) = sym (expr.rolls-Binary op boolean m left right)
  steps (Expr-F.Call function args) = sym (expr.rolls-Call function args)
  steps (Expr-F.Aggregate op g param of) = sym (expr.rolls-Aggregate op g param of)

  module _ (apart : bytes_eq name METRIC_NAME.now ≡ false) (store : Store) (t : Moment) where
    -- what a tree gives over the whole store, and over the entries that have the label
    abbrev over_whole : Expr → Operand
    over_whole = operand_of (whole store t)

    abbrev over_own : Expr → Operand
    over_own = operand_of (around_own name value store t)

    abbrev IsAlike : Expr → Type 0
    IsAlike e = over_whole (enforced name value e) ≡ over_own e

    -- the same of the tree of a node, by what the node's children give
    abbrev IsNodeAlike : Expr-F Expr → Type 0
    IsNodeAlike node =
        operand_step (whole store t) (map-Expr Expr Operand over_whole (layer (map-Expr Expr Expr (enforced name value) node)))
        ≡ operand_step (around_own name value store t) (map-Expr Expr Operand over_own node)

    -- the law of a tree from that of its node
    rolled : (node : Expr-F Expr) → IsNodeAlike node → IsAlike (roll-Expr node)
    rolled node alike =
        let children = map-Expr Expr Expr (enforced name value) node in
        ap over_whole (fold-roll-Expr Expr (enforce_step name value) node ∙ steps children)
        ∙ fold-roll-Expr Operand (operand_step (whole store t)) (layer children)
        ∙ alike
        ∙ sym (fold-roll-Expr Operand (operand_step (around_own name value store t)) node)

    -- a child of which the law is known
    abbrev Child : Type 0
    Child = (e : Expr) × IsAlike e

    abbrev tree_of : Child → Expr
    tree_of child = child.0

    -- the children give the same
    same : (children : List Child) → map over_whole (map (enforced name value) (map tree_of children)) ≡ map over_own (map tree_of children)
    same [] = refl
    same (child ∷ children) = ap₂ (λ o os. o ∷ os) child.1 (same children)

    -- every node over children that are alike is alike
    node-of : (node : Expr-F Child) → IsNodeAlike (map-Expr Child Expr tree_of node)
    node-of (Expr-F.Number n) = refl
    node-of (Expr-F.Str text) = refl
    node-of (Expr-F.Select metric matchers range offset) = selected-alike name value apart store t metric matchers range offset
    node-of (Expr-F.Unary minus of) = ap (λ os. operand_step (whole store t) (Expr-F.Unary minus os)) (same of)
    node-of (Expr-F.Binary op boolean m left right) =
        ap₂ (λ ls rs. operand_step (whole store t) (Expr-F.Binary op boolean m ls rs)) (same left) (same right)
    node-of (Expr-F.Call function args) = ap (λ os. operand_step (whole store t) (Expr-F.Call function os)) (same args)
    node-of (Expr-F.Aggregate op g param of) =
        ap₂ (λ ps os. operand_step (whole store t) (Expr-F.Aggregate op g ps os)) (same param) (same of)

    operand-of : (e : Expr) → IsAlike e
    operand-of = ind-Expr IsAlike (λ node children is. rolled node (subst IsNodeAlike is (node-of children)))

-- the value of an expression with a label enforced is that of the expression as it is written, over the
-- entries that have the label
pub value-of-enforced : (name value : List ℕ) → bytes_eq name METRIC_NAME.now ≡ false → (e : Expr) (store : Store) (t : Moment)
    → value_of (whole store t) (enforced name value e) ≡ value_of (around_own name value store t) e
unfolding value_of
value-of-enforced name value apart e store t = ap outcome_of (operand-of name value apart store t e)

-- so it is for a namespace
pub value-of-enforced-home : IsEnforcedAlike
value-of-enforced-home namespace e store t = value-of-enforced NAMESPACE_LABEL.now namespace refl e store t
