use Rattle.std.proofs.Common.{Some, Err, ap, sym, ◌∙◌}
use Rattle.ql_tree.specs.Typed.{shape_of}
use Rattle.op_thin.proofs.JudgedLemmas.{is_value, value_of, untyped}
use Rattle.op_thin.proofs.judged.is_valued.Goals as goal

pub returns-in-Ok-Scalar : goal.returns-in-Ok-Scalar
returns-in-Ok-Scalar c =
    ap is_value (sym (c.in-Ok-Scalar.ensures.typed ∙ ap Some c.in-Ok-Scalar.field-0-is)) ∙ value_of (shape_of c.args.expr.now)

pub returns-in-Ok-Vector : goal.returns-in-Ok-Vector
returns-in-Ok-Vector c =
    ap is_value (sym (c.in-Ok-Vector.ensures.typed ∙ ap Some c.in-Ok-Vector.field-0-is)) ∙ value_of (shape_of c.args.expr.now)

pub returns-in-Ok-Range : goal.returns-in-Ok-Range
returns-in-Ok-Range c =
    ap is_value (sym (c.in-Ok-Range.ensures.typed ∙ ap Some c.in-Ok-Range.field-0-is)) ∙ value_of (shape_of c.args.expr.now)

pub returns-in-Ok-Str : goal.returns-in-Ok-Str
returns-in-Ok-Str c =
    ap is_value (sym (c.in-Ok-Str.ensures.typed ∙ ap Some c.in-Ok-Str.field-0-is)) ∙ value_of (shape_of c.args.expr.now)

pub returns-in-Err-IllTyped : goal.returns-in-Err-IllTyped
returns-in-Err-IllTyped c =
    sym (untyped (shape_of c.args.expr.now)
    (λ t. c.type_of.ensures.no_type c.in-Err-IllTyped.field-0-0 t (c.in-Err-IllTyped.is ∙ ap Err c.in-Err-IllTyped.field-0-is)))
