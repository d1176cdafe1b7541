-- How deep a tree is, by its parts.
use Rattle.std.proofs.Common.{◌≡◌, ℕ, ◌+◌, max, ℤ, Bool, List, [], ◌∷◌, ◌++◌, Option, map, ap, ◌∙◌, arith}
use Rattle.op_base.specs.declared.matcher.Matcher.{Matcher}
use Rattle.op_base.specs.declared.span.Span.{Span}
use Rattle.ql_tree.specs.Children.{children_of, greatest, depth_of}
use Rattle.ql_tree.specs.declared.tree.AggregateOp.{AggregateOp}
use Rattle.ql_tree.specs.declared.tree.BinaryOp.{BinaryOp}
use Rattle.ql_tree.specs.declared.tree.Expr.{Expr}
use Rattle.ql_tree.specs.declared.tree.Expr.TheOpen.{Expr-F}
use Rattle.ql_tree.specs.declared.tree.Expr.TheViews.{out-Expr}
use Rattle.ql_tree.specs.declared.tree.Expr.TheVariants as expr
use Rattle.ql_tree.specs.declared.tree.Grouping.{Grouping}
use Rattle.ql_tree.specs.declared.tree.Matching.{Matching}
use Rattle.ql_tree.proofs.NodeLemmas.{depth_out, out-Number, out-Str, out-Select, out-Unary, out-Binary, out-Call, out-Aggregate}

-- the deepest of them
abbrev pub depths : List Expr → ℕ
depths es = greatest (map depth_of es)

depth_at : (e : Expr) (node : Expr-F Expr) → out-Expr e ≡ node
    → depth_of e ≡ 1 + depths (children_of node)
depth_at e node is = depth_out e ∙ ap (λ n. 1 + depths (children_of n)) is

pub depth-Number : (z : ℤ) → depth_of (expr.Number z) ≡ 1
depth-Number z = depth_at (expr.Number z) (Expr-F.Number z) (out-Number z)

pub depth-Str : (text : List ℕ) → depth_of (expr.Str text) ≡ 1
depth-Str text = depth_at (expr.Str text) (Expr-F.Str text) (out-Str text)

pub depth-Select : (name : Option (List ℕ)) (ms : List Matcher) (range offset : Option Span)
    → depth_of (expr.Select name ms range offset) ≡ 1
depth-Select name ms range offset =
    depth_at (expr.Select name ms range offset) (Expr-F.Select name ms range offset)
    (out-Select name ms range offset)

pub depth-Unary : (minus : Bool) (e : Expr) → depth_of (expr.Unary minus (e ∷ [])) ≡ 1 + depth_of e
depth-Unary minus e =
    let p =
    depth_at (expr.Unary minus (e ∷ [])) (Expr-F.Unary minus (e ∷ [])) (out-Unary minus (e ∷ []))
    in
    omega (arith, p)

pub depth-Binary : (op : BinaryOp) (boolean : Bool) (m : Option Matching) (l r : Expr)
    → depth_of (expr.Binary op boolean m (l ∷ []) (r ∷ [])) ≡ 1 + max (depth_of l) (depth_of r)
depth-Binary op boolean m l r =
    let p =
    depth_at
    (expr.Binary op boolean m (l ∷ []) (r ∷ []))
    (Expr-F.Binary op boolean m (l ∷ []) (r ∷ []))
    (out-Binary op boolean m (l ∷ []) (r ∷ []))
    in
    omega (arith, p)

pub depth-Call : (function : List ℕ) (args : List Expr)
    → depth_of (expr.Call function args) ≡ 1 + depths args
depth-Call function args =
    depth_at (expr.Call function args) (Expr-F.Call function args) (out-Call function args)

pub depths-append : (es fs : List Expr) → depths (es ++ fs) ≡ max (depths es) (depths fs)
depths-append [] fs = omega arith
depths-append (e ∷ es) fs =
    let rest : depths (es ++ fs) ≡ max (depths es) (depths fs) = depths-append es fs in
    omega (arith, rest)

pub depth-Aggregate : (op : AggregateOp) (grouping : Option Grouping) (param : List Expr) (e : Expr)
    → depth_of (expr.Aggregate op grouping param (e ∷ [])) ≡ 1 + max (depths param) (depth_of e)
depth-Aggregate op grouping param e =
    let p =
    depth_at
    (expr.Aggregate op grouping param (e ∷ []))
    (Expr-F.Aggregate op grouping param (e ∷ []))
    (out-Aggregate op grouping param (e ∷ []))
    in
    omega (arith, p, depths-append param (e ∷ []))
