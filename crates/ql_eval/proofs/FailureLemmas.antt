-- The first failure among operands, and then among others.
use Rattle.std.proofs.Common.{◌≡◌, List, [], ◌∷◌, ◌++◌, Option, Some, None, refl, sym, ap, ◌∙◌}
use Rattle.ql_call.specs.Operands.{failure_of, failure_in, or_else}
use Rattle.ql_call.specs.declared.operand.Operand.{Operand}
use Rattle.ql_call.specs.declared.outcome.Outcome.{Outcome}

or_else-or_else : (a b c : Option Outcome) → or_else a (or_else b c) ≡ or_else (or_else a b) c
or_else-or_else None b c = refl
or_else-or_else (Some x) b c = refl

pub failure_in-append : (first second : List Operand) → failure_in (first ++ second) ≡ or_else (failure_in first) (failure_in second)
failure_in-append [] second = refl
failure_in-append (given ∷ first) second =
    ap (or_else (failure_of given)) (failure_in-append first second) ∙ or_else-or_else (failure_of given) (failure_in first) (failure_in second)

pub failed-first : (first second : List Operand) (failure : Outcome) → Some failure ≡ failure_in first → Some failure ≡ failure_in (first ++ second)
failed-first first second failure is =
    ap (λ o. or_else o (failure_in second)) is ∙ sym (failure_in-append first second)

pub failed-second : (first second : List Operand) (failure : Option Outcome) → None ≡ failure_in first → failure ≡ failure_in second → failure ≡ failure_in (first ++ second)
failed-second first second failure none is =
    is ∙ ap (λ o. or_else o (failure_in second)) none ∙ sym (failure_in-append first second)
