-- The operands so far.
use Rattle.std.proofs.Common.{◌≡◌, map, take}
use Rattle.ql_eval.specs.Values as spec
use Rattle.ql_eval.proofs.evaluation.+evaluation.Given as goal

abbrev pub invariant-operands-loop-expr : goal.invariant-operands-loop-expr
invariant-operands-loop-expr l =
    l.operands ≡ map (spec.operand_of (spec.whole l.store l.t)) (take l.expr-index l.exprs)
