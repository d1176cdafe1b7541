-- Whether a tree has a nameless selector, child by child.
use Rattle.std.proofs.Common.{◌≡◌, ℕ, ℤ, ◌++◌, Bool, true, false, ◌||◌, List, [], ◌∷◌, map, Option, refl, ap, ◌∙◌}
use Rattle.std.specs.List.{list_any}
use Rattle.ql_tree.specs.Children.{children_of}
use Rattle.ql_tree.specs.declared.tree.Expr.{Expr}
use Rattle.ql_tree.specs.declared.tree.Expr.TheOpen.{Expr-F}
use Rattle.ql_tree.specs.declared.tree.Expr.TheViews.{out-Expr}
use Rattle.ql_tree.specs.declared.tree.Expr.TheFolds.{map-Expr, fold_out-Expr}
use Rattle.ql_tree.specs.declared.tree.Expr.TheVariants as expr
use Rattle.ql_tree.specs.declared.tree.AggregateOp.{AggregateOp}
use Rattle.ql_tree.specs.declared.tree.BinaryOp.{BinaryOp}
use Rattle.ql_tree.specs.declared.tree.Grouping.{Grouping}
use Rattle.ql_tree.specs.declared.tree.Matching.{Matching}
use Rattle.op_base.specs.declared.matcher.Matcher.{Matcher}
use Rattle.op_base.specs.declared.span.Span.{Span}
use Rattle.ql_tree.proofs.NodeLemmas.{children-map, out-Number, out-Str, out-Select, out-Unary, out-Binary, out-Call, out-Aggregate}
use Rattle.ql_tree.proofs.VerdictLemmas.{children}
use Rattle.op_thin.specs.Nameless.{is_nameless, nameless_step, has_nameless, selects_all}

node_same : (node : Expr-F Expr) → is_nameless (map-Expr Expr Bool has_nameless node) ≡ is_nameless node
node_same (Expr-F.Number n) = refl
node_same (Expr-F.Str text) = refl
node_same (Expr-F.Select name matchers range offset) = refl
node_same (Expr-F.Unary minus of) = refl
node_same (Expr-F.Binary op boolean m left right) = refl
node_same (Expr-F.Call function args) = refl
node_same (Expr-F.Aggregate op grouping param of) = refl

any_map : (es : List Expr) → list_any (λ below. below) (map has_nameless es) ≡ list_any has_nameless es
any_map [] = refl
any_map (e ∷ es) = ap (λ b. has_nameless e || b) (any_map es)

-- the tree has one where its root or a child has one
pub nameless_out : (e : Expr) → has_nameless e ≡ (is_nameless (out-Expr e) || list_any has_nameless (children e))
nameless_out e =
    fold_out-Expr Bool nameless_step e
    ∙ ap (λ b. b || list_any (λ below. below) (children_of (map-Expr Expr Bool has_nameless (out-Expr e)))) (node_same (out-Expr e))
    ∙ ap (λ bs. is_nameless (out-Expr e) || list_any (λ below. below) bs) (children-map has_nameless (out-Expr e))
    ∙ ap (λ b. is_nameless (out-Expr e) || b) (any_map (children e))

at_node : (e : Expr) (node : Expr-F Expr) → out-Expr e ≡ node
    → has_nameless e ≡ (is_nameless node || list_any has_nameless (children_of node))
at_node e node is = nameless_out e ∙ ap (λ n. is_nameless n || list_any has_nameless (children_of n)) is

or_nothing : (b : Bool) → (b || false) ≡ b
or_nothing true = refl
or_nothing false = refl

or_together : (a b c : Bool) → (a || (b || c)) ≡ ((a || b) || c)
or_together true b c = refl
or_together false b c = refl

any_both : (es fs : List Expr) → list_any has_nameless (es ++ fs) ≡ (list_any has_nameless es || list_any has_nameless fs)
any_both [] fs = refl
any_both (e ∷ es) fs =
    ap (λ b. has_nameless e || b) (any_both es fs)
    ∙ or_together (has_nameless e) (list_any has_nameless es) (list_any has_nameless fs)

pub at_number : (n : ℤ) → has_nameless (expr.Number n) ≡ false
at_number n = at_node (expr.Number n) (Expr-F.Number n) (out-Number n)

pub at_string : (text : List ℕ) → has_nameless (expr.Str text) ≡ false
at_string text = at_node (expr.Str text) (Expr-F.Str text) (out-Str text)

pub at_select : (name : Option (List ℕ)) (matchers : List Matcher) (range offset : Option Span)
    → has_nameless (expr.Select name matchers range offset) ≡ selects_all name matchers
at_select name matchers range offset =
    at_node (expr.Select name matchers range offset) (Expr-F.Select name matchers range offset) (out-Select name matchers range offset)
    ∙ or_nothing (selects_all name matchers)

pub at_sign : (minus : Bool) (of : List Expr) → has_nameless (expr.Unary minus of) ≡ list_any has_nameless of
at_sign minus of = at_node (expr.Unary minus of) (Expr-F.Unary minus of) (out-Unary minus of)

pub at_operator : (op : BinaryOp) (boolean : Bool) (m : Option Matching) (left right : List Expr)
    → has_nameless (expr.Binary op boolean m left right) ≡ (list_any has_nameless left || list_any has_nameless right)
at_operator op boolean m left right =
    at_node (expr.Binary op boolean m left right) (Expr-F.Binary op boolean m left right) (out-Binary op boolean m left right)
    ∙ any_both left right

pub at_call : (function : List ℕ) (args : List Expr) → has_nameless (expr.Call function args) ≡ list_any has_nameless args
at_call function args = at_node (expr.Call function args) (Expr-F.Call function args) (out-Call function args)

pub at_aggregate : (op : AggregateOp) (grouping : Option Grouping) (param of : List Expr)
    → has_nameless (expr.Aggregate op grouping param of) ≡ (list_any has_nameless param || list_any has_nameless of)
at_aggregate op grouping param of =
    at_node (expr.Aggregate op grouping param of) (Expr-F.Aggregate op grouping param of) (out-Aggregate op grouping param of)
    ∙ any_both param of
