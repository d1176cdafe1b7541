-- What an expression means over a store at a moment: each node is a function of its operands, and selectors
-- and the functions of time see what surrounds it.
use Rattle.std.specs.Prelude.{◌⊎◌, List, [], ◌++◌}
use Rattle.op_base.specs.declared.moment.Moment.{Moment}
use Rattle.op_base.specs.Labels.{Texts}
use Rattle.ql_tree.specs.Typed.{Typed}
use Rattle.ql_tree.specs.declared.tree.Expr.{Expr}
use Rattle.ql_tree.specs.declared.tree.Expr.TheOpen.{Expr-F}
use Rattle.ql_tree.specs.declared.tree.Expr.TheFolds.{fold-Expr}
use Rattle.ql_tree.specs.declared.types.ExprType.TheVariants as type
use Rattle.srv_store.specs.Stores.{Store}
use Rattle.ql_call.specs.Aggregates.{aggregate}
use Rattle.ql_call.specs.Calls.{call_of}
use Rattle.ql_call.specs.Operands.{elements_at, number_at, scalar_at, text_at, unless_failed, outcome_of}
use Rattle.ql_call.specs.Operators.{signed}
use Rattle.ql_call.specs.Sets.{binary}
use Rattle.ql_call.specs.declared.operand.Operand.{Operand}
use Rattle.ql_call.specs.declared.operand.Operand.TheVariants as operand
use Rattle.ql_call.specs.declared.outcome.Outcome.{Outcome}
use Rattle.ql_call.specs.declared.outcome.Outcome.TheVariants.{Scalar}
use Rattle.ql_eval.specs.Selected.{selected}

-- the store, the ambient labels and the moment
pub record Around : Type 0 where
  pub store : Store
  pub ambient : Texts
  pub at : Moment

-- a store at a moment, with no ambient labels
abbrev pub whole : Store → Moment → Around
whole store t = record { store = store; ambient = []; at = t }

-- a node whose operands may have failed
abbrev pub node_of : List Operand → Outcome → Operand
node_of operands given = operand.Value (unless_failed operands given)

-- what a node gives, whose children gave these operands
abbrev pub operand_step : Around → Expr-F Operand → Operand
operand_step around (Expr-F.Number n) = operand.Value (Scalar n)
operand_step around (Expr-F.Str text) = operand.Text text
operand_step around (Expr-F.Select name matchers range offset) =
    selected around.ambient around.store around.at name matchers range offset
operand_step around (Expr-F.Unary minus of) =
    node_of of (signed minus (number_at 0 of) (elements_at 0 of))
operand_step around (Expr-F.Binary op boolean m left right) =
    node_of (left ++ right)
    (binary op boolean m (number_at 0 left) (number_at 0 right) (elements_at 0 left) (elements_at 0 right))
operand_step around (Expr-F.Call function args) = node_of args (call_of function around.at args)
operand_step around (Expr-F.Aggregate op g param of) =
    node_of (param ++ of) (aggregate op g (text_at 0 param) (scalar_at 0 param) (elements_at 0 of))

-- what an expression gives to the node above it
abbrev pub operand_of : Around → Expr → Operand
operand_of around = fold-Expr Operand (operand_step around)

-- what an expression comes to
unfoldable pub value_of : Around → Expr → Outcome
value_of around e = outcome_of (operand_of around e)

-- a vector or a scalar
abbrev pub IsEvaluable : Expr → Type 0
IsEvaluable e = Typed e type.Scalar ⊎ Typed e type.Vector
