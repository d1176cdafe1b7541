use Rattle.ql_tree.proofs.TypeLemmas.{typed_is, untyped_is}
use Rattle.std.proofs.Common.{subst, sym}
use Rattle.ql_tree.specs.Faults.{IsFault}
use Rattle.ql_tree.specs.Typed.{Typed}
use Rattle.ql_tree.specs.Untyped.{verdict_of}
use Rattle.ql_tree.proofs.typing.type_of.Goals as goal

pub returns-in-Ok-clause-typed : goal.returns-in-Ok-clause-typed
returns-in-Ok-clause-typed c =
    subst (λ t. Typed c.args.expr.now t) (sym c.type_of_shape.ensures) (typed_is c.args.expr.now c.in-Ok.found c.in-Ok.ensures.shape)

pub returns-in-Err-Here-clause-no_type : goal.returns-in-Err-Here-clause-no_type
returns-in-Err-Here-clause-no_type c = λ path t e typed.
    untyped_is c.args.expr.now _ t (subst (IsFault (verdict_of c.args.expr.now)) c.in-Err-Here.field-0-is c.in-Err-Here.ensures.fault) typed

pub returns-in-Err-Below-clause-no_type : goal.returns-in-Err-Below-clause-no_type
returns-in-Err-Below-clause-no_type c = λ path t e typed.
    let fault = subst (IsFault (verdict_of c.args.expr.now)) c.in-Err-Below.field-0-is c.in-Err-Below.ensures.fault in
    untyped_is c.args.expr.now _ t fault.1.1.0 typed
