use Rattle.std.proofs.Common.{◌≡◌, ◌<◌, ◌∷◌, Ok, Err, IfOk, IfErr, length, rules, sym, subst, ap, ◌∙◌}
use Rattle.ql_tree.specs.Children.{depth_of}
use Rattle.ql_tree.specs.Faults.{IsFault}
use Rattle.ql_tree.specs.Typed.{rule_of}
use Rattle.ql_tree.specs.Untyped.{verdict_of, here}
use Rattle.ql_tree.specs.declared.tree.Expr.TheViews.{out-Expr}
use Rattle.ql_tree.proofs.VerdictLemmas.{AreShapes, children, one_more, as_many, whole_verdict, child_fails, child_below, found_at, none_at, one_fewer}
use Rattle.ql_tree.proofs.typing.+shape.Goals as goal

pub loop-next-init : goal.loop-next-init
loop-next-init t c = subst (λ ss. AreShapes ss (children c.args.expr.now)) (sym c.new-shapes.ensures) (AreShapes.none (children c.args.expr.now))

pub shape-requires : goal.shape-requires
shape-requires t c =
    let below : depth_of c.in-Some.next.now < depth_of c.args.expr.now =
    child_below c.args.expr.now _ c.in-Some.next.now (found_at _ _ _ _ c.in-Some.ensures c.len.ensures) in
    search rules

pub loop-next-smaller : goal.loop-next-smaller
loop-next-smaller t c = one_fewer _ _ _ _ _ (found_at _ _ _ _ c.in-Some.ensures c.len.ensures) c.in_ok-push-in-Ok.ensures.ok

pub loop-next-preserved : goal.loop-next-preserved
loop-next-preserved t c =
    subst (λ ss. AreShapes ss (children c.args.expr.now)) (sym c.in_ok-push-in-Ok.ensures.ok)
    (one_more _ _ _ _ c.loop-next.invariant (found_at _ _ _ _ c.in-Some.ensures c.len.ensures) c.in-Ok.ensures.shape)

pub returns-in-Err-clause-fault : goal.returns-in-Err-clause-fault
returns-in-Err-clause-fault t c =
    c.above.ensures (verdict_of c.in-Some.next.now) (verdict_of c.args.expr.now) c.in-Err.ensures.fault
    (λ path is. child_fails c.args.expr.now _ c.in-Some.next.now path c.loop-next.invariant
    (found_at _ _ _ _ c.in-Some.ensures c.len.ensures) is
    ∙ ap (λ n. Err (n ∷ path)) (sym c.len-in-Err.ensures))

pub rule-requires : goal.rule-requires
rule-requires t c =
    ap length c.as_slice.ensures ∙ as_many _ _ c.loop-next.invariant (none_at _ _ _ c.in_default.ensures c.len.ensures)

pub returns-clause-shape : goal.returns-clause-shape
returns-clause-shape t c =
    let is : verdict_of c.args.expr.now ≡ here c.in_ok-rule.field-0 =
    whole_verdict c.args.expr.now _ c.loop-next.invariant (none_at _ _ _ c.in_default.ensures c.len.ensures)
    ∙ ap (λ ss. here (rule_of (out-Expr c.args.expr.now) ss)) (sym c.as_slice.ensures) ∙ ap here (sym c.in_ok-rule.ensures) in
    subst (λ v. IfOk c.here.result (λ found. v ≡ Ok found)) (sym is) c.here.ensures.shape

pub returns-clause-fault : goal.returns-clause-fault
returns-clause-fault t c =
    let is : verdict_of c.args.expr.now ≡ here c.in_ok-rule.field-0 =
    whole_verdict c.args.expr.now _ c.loop-next.invariant (none_at _ _ _ c.in_default.ensures c.len.ensures)
    ∙ ap (λ ss. here (rule_of (out-Expr c.args.expr.now) ss)) (sym c.as_slice.ensures) ∙ ap here (sym c.in_ok-rule.ensures) in
    subst (λ v. IfErr c.here.result (IsFault v)) (sym is) c.here.ensures.fault
