-- What the expression of a rule comes to: its tree, or the rule of admission that it breaks first.
use Rattle.std.specs.Prelude.{ℕ, ◌⊎◌, Bool, true, false, List, Option, Some, None, codes, if◌then◌else◌}
use Rattle.ql_parse.specs.Trees.{tree_of}
use Rattle.ql_tree.specs.Typed.{Typed, shape_of}
use Rattle.ql_tree.specs.declared.tree.Expr.{Expr}
use Rattle.ql_tree.specs.declared.types.ExprType.TheVariants as type
use Rattle.ql_tree.specs.declared.types.Shape.{Shape}
use Rattle.ql_tree.specs.declared.types.Shape.TheVariants as shape
use Rattle.op_thin.specs.declared.judged.Judged.{Judged}
use Rattle.op_thin.specs.declared.judged.Judged.TheVariants.{Tree, NotExpr, IllTyped, Nameless}
use Rattle.op_thin.specs.Nameless.{has_nameless}

-- of a scalar or a vector
abbrev pub judged_named : Expr → Judged
judged_named e = if has_nameless e then Nameless else Tree e

-- a rule's expression is a scalar or a vector
abbrev pub judged_typed : Expr → Option Shape → Judged
judged_typed e None = IllTyped
judged_typed e (Some shape.Scalar) = judged_named e
judged_typed e (Some shape.Vector) = judged_named e
judged_typed e (Some shape.Range) = IllTyped
judged_typed e (Some (shape.Str text)) = IllTyped

-- there is a shape, and it is a scalar's or a vector's
abbrev pub is_valued : Option Shape → Bool
is_valued None = false
is_valued (Some shape.Scalar) = true
is_valued (Some shape.Vector) = true
is_valued (Some shape.Range) = false
is_valued (Some (shape.Str text)) = false

-- what the tree of an expression comes to, where there is a tree
abbrev pub judged_tree : Option Expr → Judged
judged_tree None = NotExpr
judged_tree (Some e) = judged_typed e (shape_of e)

-- what the text of an expression comes to
abbrev pub judged : List ℕ → Judged
judged text = judged_tree (tree_of text)

-- the rule that skips the object, if one does
abbrev pub skip_rule : Judged → Option (List ℕ)
skip_rule (Tree e) = None
skip_rule NotExpr = Some (codes "A13")
skip_rule IllTyped = Some (codes "A14")
skip_rule Nameless = Some (codes "A15")

-- where a thin rule's expression stands
abbrev pub EXPR_PATH : List ℕ
EXPR_PATH = codes "spec.groups[0].rules[0].expr"

-- its tree, where it is taken
abbrev pub judged_expr : Judged → Option Expr
judged_expr (Tree e) = Some e
judged_expr NotExpr = None
judged_expr IllTyped = None
judged_expr Nameless = None

-- a tree that is taken is a scalar or a vector
abbrev pub IsTyped : Judged → Type 0
IsTyped (Tree e) = Typed e type.Scalar ⊎ Typed e type.Vector
IsTyped NotExpr = Unit {0}
IsTyped IllTyped = Unit {0}
IsTyped Nameless = Unit {0}
