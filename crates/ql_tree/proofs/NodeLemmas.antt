-- What a fold is at a node.
use Rattle.std.proofs.Common.{◌≡◌, ℕ, ℤ, ◌+◌, Bool, List, Option, map, length, refl, ap, sym, ◌∙◌}
use Rattle.std.specs.Option.{option_and_then}
use Rattle.std.proofs.lemmas.List.{map-append, length-map}
use Rattle.ql_tree.specs.Children.{children_of, greatest, depth_of, depth_step}
use Rattle.ql_tree.specs.Typed.{rule_of, operands_shape, split_shape, shape_of, shape_step, all_some}
use Rattle.ql_tree.specs.Untyped.{Verdict, verdict_of, verdict_step, node_verdict, verdicts_from}
use Rattle.ql_tree.specs.declared.tree.Expr.{Expr}
use Rattle.ql_tree.specs.declared.tree.Expr.TheOpen.{Expr-F}
use Rattle.ql_tree.specs.declared.tree.Expr.TheViews.{out-Expr, out-roll-Expr}
use Rattle.ql_tree.specs.declared.tree.Expr.TheVariants as expr
use Rattle.ql_tree.specs.declared.tree.AggregateOp.{AggregateOp}
use Rattle.ql_tree.specs.declared.tree.BinaryOp.{BinaryOp}
use Rattle.ql_tree.specs.declared.tree.Grouping.{Grouping}
use Rattle.ql_tree.specs.declared.tree.Matching.{Matching}
use Rattle.op_base.specs.declared.matcher.Matcher.{Matcher}
use Rattle.op_base.specs.declared.span.Span.{Span}
use Rattle.ql_tree.specs.declared.tree.Expr.TheFolds.{map-Expr, fold_out-Expr}
use Rattle.ql_tree.specs.declared.types.Shape.{Shape}

module _ {X Y : Type 0} (f : X → Y) where
  pub children-map : (node : Expr-F X) → children_of (map-Expr X Y f node) ≡ map f (children_of node)
  children-map (Expr-F.Number n) = refl
  children-map (Expr-F.Str text) = refl
  children-map (Expr-F.Select name matchers range offset) = refl
  children-map (Expr-F.Unary minus of) = refl
  children-map (Expr-F.Binary op boolean m left right) = sym (map-append f left right)
  children-map (Expr-F.Call function args) = refl
  children-map (Expr-F.Aggregate op grouping param of) = sym (map-append f param of)

  pub rule-map : (node : Expr-F X) → rule_of (map-Expr X Y f node) ≡ rule_of node
  rule-map (Expr-F.Number n) = refl
  rule-map (Expr-F.Str text) = refl
  rule-map (Expr-F.Select name matchers range offset) = refl
  rule-map (Expr-F.Unary minus of) = refl
  rule-map (Expr-F.Binary op boolean m left right) =
      ap (λ n. λ shapes. operands_shape n (length (map f right)) op boolean m shapes) (length-map left f)
      ∙ ap (λ n. λ shapes. operands_shape (length left) n op boolean m shapes) (length-map right f)
  rule-map (Expr-F.Call function args) = refl
  rule-map (Expr-F.Aggregate op grouping param of) = ap (λ n. λ shapes. split_shape n op shapes) (length-map param f)

pub depth_out : (e : Expr) → depth_of e ≡ 1 + greatest (map depth_of (children_of (out-Expr e)))
depth_out e = fold_out-Expr ℕ depth_step e ∙ ap (λ ds. 1 + greatest ds) (children-map depth_of (out-Expr e))

pub shape_out : (e : Expr) → shape_of e ≡ option_and_then (rule_of (out-Expr e)) (all_some (map shape_of (children_of (out-Expr e))))
shape_out e =
    fold_out-Expr (Option Shape) shape_step e
    ∙ ap (λ rule. option_and_then rule (all_some (children_of (map-Expr Expr (Option Shape) shape_of (out-Expr e))))) (rule-map shape_of (out-Expr e))
    ∙ ap (λ cs. option_and_then (rule_of (out-Expr e)) (all_some cs)) (children-map shape_of (out-Expr e))

pub verdict_out : (e : Expr) → verdict_of e ≡ node_verdict (rule_of (out-Expr e)) (verdicts_from 0 (map verdict_of (children_of (out-Expr e))))
verdict_out e =
    fold_out-Expr Verdict verdict_step e
    ∙ ap (λ rule. node_verdict rule (verdicts_from 0 (children_of (map-Expr Expr Verdict verdict_of (out-Expr e))))) (rule-map verdict_of (out-Expr e))
    ∙ ap (λ cs. node_verdict (rule_of (out-Expr e)) (verdicts_from 0 cs)) (children-map verdict_of (out-Expr e))

-- what a tree is at its root
pub out-Number : (n : ℤ) → out-Expr (expr.Number n) ≡ Expr-F.Number n
out-Number n = ap out-Expr (sym (expr.rolls-Number n)) ∙ out-roll-Expr (Expr-F.Number n)

pub out-Str : (text : List ℕ) → out-Expr (expr.Str text) ≡ Expr-F.Str text
out-Str text = ap out-Expr (sym (expr.rolls-Str text)) ∙ out-roll-Expr (Expr-F.Str text)

pub out-Select : (name : Option (List ℕ)) (matchers : List Matcher) (range offset : Option Span)
    → out-Expr (expr.Select name matchers range offset) ≡ Expr-F.Select name matchers range offset
out-Select name matchers range offset =
    ap out-Expr (sym (expr.rolls-Select name matchers range offset)) ∙ out-roll-Expr (Expr-F.Select name matchers range offset)

pub out-Unary : (minus : Bool) (of : List Expr) → out-Expr (expr.Unary minus of) ≡ Expr-F.Unary minus of
out-Unary minus of = ap out-Expr (sym (expr.rolls-Unary minus of)) ∙ out-roll-Expr (Expr-F.Unary minus of)

pub out-Binary : (op : BinaryOp) (boolean : Bool) (m : Option Matching) (left right : List Expr)
    → out-Expr (expr.Binary op boolean m left right) ≡ Expr-F.Binary op boolean m left right
out-Binary op boolean m left right =
    ap out-Expr (sym (expr.rolls-Binary op boolean m left right)) ∙ out-roll-Expr (Expr-F.Binary op boolean m left right)

pub out-Call : (function : List ℕ) (args : List Expr) → out-Expr (expr.Call function args) ≡ Expr-F.Call function args
out-Call function args = ap out-Expr (sym (expr.rolls-Call function args)) ∙ out-roll-Expr (Expr-F.Call function args)

pub out-Aggregate : (op : AggregateOp) (grouping : Option Grouping) (param of : List Expr)
    → out-Expr (expr.Aggregate op grouping param of) ≡ Expr-F.Aggregate op grouping param of
out-Aggregate op grouping param of =
    ap out-Expr (sym (expr.rolls-Aggregate op grouping param of)) ∙ out-roll-Expr (Expr-F.Aggregate op grouping param of)
