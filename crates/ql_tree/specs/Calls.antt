-- The functions of PromQL: what they take, and what a call of one is.
use Rattle.std.specs.Prelude.{ℕ, Bool, List, [], ◌∷◌, Option, Some, None, ◌&&◌, codes, bytes_eq, take, drop, if◌then◌else◌}
use Rattle.std.specs.List.{list_all, list_any}
use Rattle.op_base.specs.Names.{is_label_name}
use Rattle.ql_tree.specs.Patterns.{is_pattern}
use Rattle.ql_tree.specs.Shapes.{have_types, text_at, is_string}
use Rattle.ql_tree.specs.declared.types.Shape.{Shape}
use Rattle.ql_tree.specs.declared.types.Shape.TheVariants as shape
use Rattle.ql_tree.specs.declared.types.ExprType.{ExprType}
use Rattle.ql_tree.specs.declared.types.ExprType.TheVariants.{Scalar, Vector, Range, Str}

-- one of the names is this one
abbrev pub is_among : List ℕ → List (List ℕ) → Bool
is_among name names = list_any (bytes_eq name) names

-- those that take a vector
abbrev pub vector_functions : List (List ℕ)
vector_functions = codes "abs" ∷ codes "sgn" ∷ codes "absent" ∷ codes "timestamp" ∷ []

-- those that take a range
abbrev pub range_functions : List (List ℕ)
range_functions =
    codes "absent_over_time" ∷ codes "avg_over_time" ∷ codes "sum_over_time" ∷ codes "min_over_time"
    ∷ codes "max_over_time" ∷ codes "count_over_time" ∷ codes "last_over_time" ∷ codes "present_over_time"
    ∷ codes "changes" ∷ codes "resets" ∷ codes "increase" ∷ codes "rate" ∷ []

-- those that take a vector and a bound
abbrev pub bound_functions : List (List ℕ)
bound_functions = codes "clamp_min" ∷ codes "clamp_max" ∷ []

-- what a function takes, but for `label_replace` and `label_join`
unfoldable pub parameters_of : List ℕ → Option (List ExprType)
parameters_of function =
    if is_among function vector_functions then Some (Vector ∷ [])
    else if is_among function range_functions then Some (Range ∷ [])
    else if is_among function bound_functions then Some (Vector ∷ Scalar ∷ [])
    else if bytes_eq function (codes "clamp") then Some (Vector ∷ Scalar ∷ Scalar ∷ [])
    else if bytes_eq function (codes "time") then Some []
    else if bytes_eq function (codes "vector") then Some (Scalar ∷ []) else None

-- a vector, and the texts target, replacement, source and pattern: the target is a label name, the
-- pattern is one
unfoldable pub label_replace_shape : List Shape → Option Shape
label_replace_shape args =
    if have_types args (Vector ∷ Str ∷ Str ∷ Str ∷ Str ∷ []) && is_label_name (text_at 1 args) && is_pattern (text_at 4 args)
    then Some shape.Vector else None

-- a vector, and the texts target, separator, and one source or more: the target is a label name
unfoldable pub label_join_shape : List Shape → Option Shape
label_join_shape args =
    if have_types (take 4 args) (Vector ∷ Str ∷ Str ∷ Str ∷ []) && list_all is_string (drop 4 args) && is_label_name (text_at 1 args)
    then Some shape.Vector else None

-- `time()` is a scalar, every other call a vector
abbrev pub result_of : List ℕ → Shape
result_of function = if bytes_eq function (codes "time") then shape.Scalar else shape.Vector

-- a call of a function with a list of argument types, where there is one: each argument has its type
abbrev pub plain_call_shape : List ℕ → Option (List ExprType) → List Shape → Option Shape
plain_call_shape function None args = None
plain_call_shape function (Some types) args = if have_types args types then Some (result_of function) else None

-- what a call of the function with these arguments is
unfoldable pub call_shape : List ℕ → List Shape → Option Shape
call_shape function args =
    if bytes_eq function (codes "label_replace") then label_replace_shape args
    else if bytes_eq function (codes "label_join") then label_join_shape args
    else plain_call_shape function (parameters_of function) args
