-- The types of PromQL: a number is a scalar, a string a text, a selector a vector or, with a range, a
-- range. A node has a type where its children have types and its rule below gives one for them.
use Rattle.std.specs.Prelude.{◌≡◌, ℕ, Bool, true, false, List, [], ◌∷◌, Option, Some, None, ◌==◌, ◌&&◌, ◌||◌, not, bytes_eq, length, take, drop, if◌then◌else◌}
use Rattle.std.specs.Option.{option_and_then, option_map}
use Rattle.std.specs.List.{list_all, list_any}
use Rattle.op_base.specs.Names.{is_label_name}
use Rattle.op_base.specs.declared.matcher.Matcher.{Matcher}
use Rattle.op_base.specs.declared.matcher.MatchOp.{MatchOp}
use Rattle.op_base.specs.declared.matcher.MatchOp.TheVariants as match
use Rattle.op_base.specs.declared.span.Span.{Span}
use Rattle.ql_tree.specs.Calls.{call_shape}
use Rattle.ql_tree.specs.Shapes.{have_types, text_at, type_of_shape}
use Rattle.ql_tree.specs.Children.{children_of}
use Rattle.ql_tree.specs.Operators.{is_comparison, is_set}
use Rattle.ql_tree.specs.Patterns.{is_pattern}
use Rattle.ql_tree.specs.declared.tree.AggregateOp.{AggregateOp}
use Rattle.ql_tree.specs.declared.tree.AggregateOp.TheVariants.{CountValues, TopK, BottomK}
use Rattle.ql_tree.specs.declared.tree.BinaryOp.{BinaryOp}
use Rattle.ql_tree.specs.declared.tree.Expr.{Expr}
use Rattle.ql_tree.specs.declared.tree.Expr.TheOpen.{Expr-F}
use Rattle.ql_tree.specs.declared.tree.Expr.TheFolds.{fold-Expr}
use Rattle.ql_tree.specs.declared.tree.Matching.{Matching}
use Rattle.ql_tree.specs.declared.tree.Side.{Side}
use Rattle.ql_tree.specs.declared.types.ExprType.{ExprType}
use Rattle.ql_tree.specs.declared.types.ExprType.TheVariants.{Scalar, Vector, Str}
use Rattle.ql_tree.specs.declared.types.Shape.{Shape}
use Rattle.ql_tree.specs.declared.types.Shape.TheVariants as shape

-- a matcher's pattern is one
abbrev pub has_pattern : MatchOp → List ℕ → Bool
has_pattern match.Eq value = true
has_pattern match.Ne value = true
has_pattern match.Re value = is_pattern value
has_pattern match.Nr value = is_pattern value

-- a matcher's pattern is one, where it has one
abbrev pub is_sound : Matcher → Bool
is_sound m = has_pattern m.op m.value

-- a selector with a range is a range, one without is a vector
abbrev pub window_shape : Option Span → Shape
window_shape None = shape.Vector
window_shape (Some range) = shape.Range

-- a selector whose matchers' patterns are patterns
abbrev pub select_shape : List Matcher → Option Span → Option Shape
select_shape matchers range = if list_all is_sound matchers then Some (window_shape range) else None

-- a sign keeps a scalar or a vector
unfoldable pub sign_shape : List Shape → Option Shape
sign_shape shapes =
    if have_types shapes (Scalar ∷ []) then Some shape.Scalar
    else if have_types shapes (Vector ∷ []) then Some shape.Vector else None

-- the label isn't among these
abbrev pub is_missing : List (List ℕ) → List ℕ → Bool
is_missing labels label = not (list_any (bytes_eq label) labels)

-- no label stands both in `on` and in the list of the `group_` clause
abbrev pub are_apart : Bool → List (List ℕ) → Option Side → Bool
are_apart on labels None = true
are_apart on labels (Some side) = not on || list_all (is_missing labels) side.include

-- there is a group clause
abbrev pub has_side : Option Side → Bool
has_side None = false
has_side (Some side) = true

-- `and`, `unless` and `or` have no `group_` clause
abbrev pub may_match : BinaryOp → Option Matching → Bool
may_match op None = true
may_match op (Some m) = not (is_set op && has_side m.side) && are_apart m.on m.labels m.side

-- there is no matching of labels
abbrev pub has_no_matching : Option Matching → Bool
has_no_matching None = true
has_no_matching (Some m) = false

-- neither `and`, `unless` or `or` nor matching
abbrev pub takes_scalars : BinaryOp → Option Matching → Bool
takes_scalars op m = not (is_set op) && has_no_matching m

-- a vector where the test holds
abbrev pub vector_if : Bool → Option Shape
vector_if holds = if holds then Some shape.Vector else None

-- a scalar and a vector, in either order
abbrev pub one_scalar : List Shape → Bool
one_scalar shapes = have_types shapes (Scalar ∷ Vector ∷ []) || have_types shapes (Vector ∷ Scalar ∷ [])

-- arithmetic of two scalars is a scalar, with a vector a vector; so is a comparison, which needs `bool`
-- between two scalars. `and`, `unless`, `or` and matching need two vectors.
unfoldable pub binary_shape : BinaryOp → Bool → Option Matching → List Shape → Option Shape
binary_shape op boolean m shapes =
    if have_types shapes (Scalar ∷ Scalar ∷ [])
    then (if takes_scalars op m && (boolean || not (is_comparison op)) then Some shape.Scalar else None)
    else if one_scalar shapes then vector_if (takes_scalars op m)
    else if have_types shapes (Vector ∷ Vector ∷ []) then vector_if (may_match op m) else None

-- there is one operand on either side
abbrev pub operands_shape : ℕ → ℕ → BinaryOp → Bool → Option Matching → List Shape → Option Shape
operands_shape lefts rights op boolean m shapes = if lefts == 1 && rights == 1 then binary_shape op boolean m shapes else None

-- `count_values` has a string that is a label name, `topk` and `bottomk` a scalar, the others nothing
unfoldable pub takes_parameter : AggregateOp → List Shape → Bool
takes_parameter CountValues param = have_types param (Str ∷ []) && is_label_name (text_at 0 param)
takes_parameter TopK param = have_types param (Scalar ∷ [])
takes_parameter BottomK param = have_types param (Scalar ∷ [])
takes_parameter _ param = have_types param []

-- an aggregate is of a vector
unfoldable pub aggregate_shape : AggregateOp → List Shape → List Shape → Option Shape
aggregate_shape op param of = vector_if (have_types of (Vector ∷ []) && takes_parameter op param)

-- the first children are its parameter
abbrev pub split_shape : ℕ → AggregateOp → List Shape → Option Shape
split_shape params op shapes = aggregate_shape op (take params shapes) (drop params shapes)

-- what a node is whose children are these
abbrev pub rule_of : {X : Type 0} → Expr-F X → List Shape → Option Shape
rule_of (Expr-F.Number n) shapes = Some shape.Scalar
rule_of (Expr-F.Str text) shapes = Some (shape.Str text)
rule_of (Expr-F.Select name matchers range offset) shapes = select_shape matchers range
rule_of (Expr-F.Unary minus of) shapes = sign_shape shapes
rule_of (Expr-F.Binary op boolean m left right) shapes = operands_shape (length left) (length right) op boolean m shapes
rule_of (Expr-F.Call function args) shapes = call_shape function shapes
rule_of (Expr-F.Aggregate op grouping param of) shapes = split_shape (length param) op shapes

-- the shapes of all, where each has one
abbrev pub all_some : List (Option Shape) → Option (List Shape)
all_some [] = Some []
all_some (s ∷ rest) = option_and_then (λ found. option_map (λ shapes. found ∷ shapes) (all_some rest)) s

-- the shape of a node, of the shapes of its children
abbrev pub shape_step : Expr-F (Option Shape) → Option Shape
shape_step node = option_and_then (rule_of node) (all_some (children_of node))

-- the shape of a tree, where it has one
abbrev pub shape_of : Expr → Option Shape
shape_of = fold-Expr (Option Shape) shape_step

-- the tree has the type
abbrev pub Typed : Expr → ExprType → Type 0
Typed e t = option_map type_of_shape (shape_of e) ≡ Some t
