-- A tree has the type that its verdict gives, and none where the verdict is a fault.
use Rattle.std.proofs.Common.{◌≡◌, ℕ, zero, suc, ◌+◌, ◌≤◌, List, [], ◌∷◌, Option, Some, None, Result, Ok, Err, map, refl, ap, sym, ◌∙◌, arith}
use Rattle.std.specs.Option.{option_and_then, option_map}
use Rattle.ql_tree.specs.Children.{greatest, depth_of}
use Rattle.ql_tree.specs.Shapes.{type_of_shape}
use Rattle.ql_tree.specs.Typed.{rule_of, shape_of, all_some, Typed}
use Rattle.ql_tree.specs.Untyped.{Verdict, verdict_of, node_verdict, verdicts_from, and_shapes, here}
use Rattle.ql_tree.specs.declared.tree.Expr.{Expr}
use Rattle.ql_tree.specs.declared.tree.Expr.TheViews.{out-Expr}
use Rattle.ql_tree.specs.declared.types.ExprType.{ExprType}
use Rattle.ql_tree.specs.declared.types.Shape.{Shape}
use Rattle.ql_tree.proofs.NodeLemmas.{verdict_out, shape_out, depth_out}
use Rattle.ql_tree.proofs.VerdictLemmas.{children}

abbrev ok_of : {X : Type 0} → Result X (List ℕ) → Option X
ok_of (Ok x) = Some x
ok_of (Err path) = None

and_shapes_ok : (s : Shape) (r : Result (List Shape) (List ℕ)) → option_map (λ shapes. s ∷ shapes) (ok_of r) ≡ ok_of (and_shapes s r)
and_shapes_ok s (Ok shapes) = refl
and_shapes_ok s (Err path) = refl

all_some_ok : (k : ℕ) (vs : List Verdict) → all_some (map ok_of vs) ≡ ok_of (verdicts_from k vs)
all_some_ok k [] = refl
all_some_ok k (Ok s ∷ vs) = ap (option_map (λ shapes. s ∷ shapes)) (all_some_ok (k + 1) vs) ∙ and_shapes_ok s (verdicts_from (k + 1) vs)
all_some_ok k (Err path ∷ vs) = refl

here_ok : (o : Option Shape) → o ≡ ok_of (here o)
here_ok None = refl
here_ok (Some s) = refl

node_ok : (rule : List Shape → Option Shape) (r : Result (List Shape) (List ℕ)) → option_and_then rule (ok_of r) ≡ ok_of (node_verdict rule r)
node_ok rule (Ok shapes) = here_ok (rule shapes)
node_ok rule (Err path) = refl

at_node : (e : Expr) → map shape_of (children e) ≡ map ok_of (map verdict_of (children e)) → shape_of e ≡ ok_of (verdict_of e)
at_node e same =
    shape_out e
    ∙ ap (λ shapes. option_and_then (rule_of (out-Expr e)) (all_some shapes)) same
    ∙ ap (option_and_then (rule_of (out-Expr e))) (all_some_ok 0 (map verdict_of (children e)))
    ∙ node_ok (rule_of (out-Expr e)) (verdicts_from 0 (map verdict_of (children e)))
    ∙ ap ok_of (sym (verdict_out e))

-- where the trees below agree, all in a list do
agree_all : (n : ℕ) → ((e : Expr) → depth_of e ≤ n → shape_of e ≡ ok_of (verdict_of e)) → (es : List Expr)
    → greatest (map depth_of es) ≤ n → map shape_of es ≡ map ok_of (map verdict_of es)
agree_all n below [] low = refl
agree_all n below (e ∷ es) low =
    let first : shape_of e ≡ ok_of (verdict_of e) = below e (omega arith) in
    let rest : map shape_of es ≡ map ok_of (map verdict_of es) = agree_all n below es (omega arith) in
    cc

agree : (n : ℕ) (e : Expr) → depth_of e ≤ n → shape_of e ≡ ok_of (verdict_of e)
agree zero e low = absurd (omega (arith, depth_out e))
agree (suc n) e low = at_node e (agree_all n (agree n) (children e) (omega (arith, depth_out e)))

pub shape_is : (e : Expr) → shape_of e ≡ ok_of (verdict_of e)
shape_is e = agree (depth_of e) e (omega arith)

pub typed_is : (e : Expr) (s : Shape) → verdict_of e ≡ Ok s → Typed e (type_of_shape s)
typed_is e s is = ap (option_map type_of_shape) (shape_is e ∙ ap ok_of is)

pub untyped_is : (e : Expr) (path : List ℕ) (t : ExprType) → verdict_of e ≡ Err path → Typed e t → ⊥
untyped_is e path t is typed =
    let clash : None ≡ Some t = ap (option_map type_of_shape) (sym (shape_is e ∙ ap ok_of is)) ∙ typed in cc
