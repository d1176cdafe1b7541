-- How the verdicts of the children make that of their parent.
use Rattle.std.proofs.Common.{◌≡◌, ℕ, zero, suc, ◌+◌, ◌<◌, ◌≤◌, List, [], ◌∷◌, ◌++◌, Some, None, Ok, Err, map, length, slice_get, refl, ap, sym, ◌∙◌, arith, zero-add, ◌-◌, length-append}
use Rattle.std.proofs.lemmas.Option.{slice_get_within}
use Rattle.ql_tree.specs.Children.{children_of, greatest, depth_of}
use Rattle.ql_tree.specs.Typed.{rule_of}
use Rattle.ql_tree.specs.Untyped.{verdict_of, node_verdict, verdicts_from, and_shapes, here}
use Rattle.ql_tree.specs.declared.tree.Expr.{Expr}
use Rattle.ql_tree.specs.declared.tree.Expr.TheViews.{out-Expr}
use Rattle.ql_tree.specs.declared.types.Shape.{Shape}
use Rattle.ql_tree.proofs.NodeLemmas.{verdict_out, depth_out}

abbrev pub children : Expr → List Expr
children e = children_of (out-Expr e)

-- the first children have these shapes
pub data AreShapes : List Shape → List Expr → Type 0 where
  none : (es : List Expr) → AreShapes [] es
  more : (s : Shape) (ss : List Shape) (e : Expr) (es : List Expr) → verdict_of e ≡ Ok s → AreShapes ss es → AreShapes (s ∷ ss) (e ∷ es)

-- one child more
pub one_more : (ss : List Shape) (es : List Expr) (s : Shape) (e : Expr) → AreShapes ss es → slice_get es (length ss) ≡ Some e
    → verdict_of e ≡ Ok s → AreShapes (ss ++ (s ∷ [])) es
one_more _ _ s e (AreShapes.none []) at is = cc
one_more _ _ s e (AreShapes.none (f ∷ fs)) at is =
    let same : f ≡ e = cc in AreShapes.more s [] f fs (ap verdict_of same ∙ is) (AreShapes.none fs)
one_more _ _ s e (AreShapes.more t ts f fs first rest) at is = AreShapes.more t (ts ++ (s ∷ [])) f fs first (one_more ts fs s e rest at is)

-- all children have shapes
pub all_ok : (k : ℕ) (ss : List Shape) (es : List Expr) → AreShapes ss es → slice_get es (length ss) ≡ None
    → verdicts_from k (map verdict_of es) ≡ Ok ss
all_ok k _ _ (AreShapes.none []) at = refl
all_ok k _ _ (AreShapes.none (f ∷ fs)) at = cc
all_ok k _ _ (AreShapes.more t ts f fs first rest) at = rw first (ap (and_shapes t) (all_ok (k + 1) ts fs rest at))

pub as_many : (ss : List Shape) (es : List Expr) → AreShapes ss es → slice_get es (length ss) ≡ None → length ss ≡ length es
as_many _ _ (AreShapes.none []) at = refl
as_many _ _ (AreShapes.none (f ∷ fs)) at = cc
as_many _ _ (AreShapes.more t ts f fs first rest) at = ap suc (as_many ts fs rest at)

-- the next child has none
pub next_err : (k : ℕ) (ss : List Shape) (es : List Expr) (e : Expr) (path : List ℕ) → AreShapes ss es → slice_get es (length ss) ≡ Some e
    → verdict_of e ≡ Err path → verdicts_from k (map verdict_of es) ≡ Err ((k + length ss) ∷ path)
next_err k _ _ e path (AreShapes.none []) at is = cc
next_err k _ _ e path (AreShapes.none (f ∷ fs)) at is =
    let same : f ≡ e = cc in
    let failed : verdict_of f ≡ Err path = ap verdict_of same ∙ is in
    let here : k ≡ k + 0 = omega arith in
    rw failed (ap (λ n. Err (n ∷ path)) here)
next_err k _ _ e path (AreShapes.more t ts f fs first rest) at is =
    let place : (k + 1) + length ts ≡ k + suc (length ts) = omega arith in
    rw first (ap (and_shapes t) (next_err (k + 1) ts fs e path rest at is) ∙ ap (λ n. Err (n ∷ path)) place)

-- a child is less deep
pub less_deep : (es : List Expr) (n : ℕ) (e : Expr) → slice_get es n ≡ Some e → depth_of e ≤ greatest (map depth_of es)
less_deep [] n e at = cc
less_deep (f ∷ fs) zero e at = let same : f ≡ e = cc in omega (arith, ap depth_of same)
less_deep (f ∷ fs) (suc n) e at = let inner = less_deep fs n e at in omega arith

-- the tree is what its rule gives for them
pub whole_verdict : (e : Expr) (ss : List Shape) → AreShapes ss (children e) → slice_get (children e) (length ss) ≡ None
    → verdict_of e ≡ here (rule_of (out-Expr e) ss)
whole_verdict e ss shapes at = verdict_out e ∙ ap (node_verdict (rule_of (out-Expr e))) (all_ok 0 ss (children e) shapes at)

-- the tree fails where a child does
pub child_fails : (e : Expr) (ss : List Shape) (next : Expr) (path : List ℕ) → AreShapes ss (children e)
    → slice_get (children e) (length ss) ≡ Some next → verdict_of next ≡ Err path → verdict_of e ≡ Err (length ss ∷ path)
child_fails e ss next path shapes at is =
    verdict_out e ∙ ap (node_verdict (rule_of (out-Expr e))) (next_err 0 ss (children e) next path shapes at is)
    ∙ ap (λ n. Err (n ∷ path)) (zero-add (length ss))

pub child_below : (e : Expr) (n : ℕ) (next : Expr) → slice_get (children e) n ≡ Some next → depth_of next < depth_of e
child_below e n next at = let inner = less_deep (children e) n next at in omega (arith, depth_out e)

-- how a loop over the children knows the next
pub found_at : (es : List Expr) (n m : ℕ) (e : Expr) → Some e ≡ slice_get es n → n ≡ m → slice_get es m ≡ Some e
found_at es n m e is same = ap (slice_get es) (sym same) ∙ sym is

pub none_at : (es : List Expr) (n m : ℕ) → None ≡ slice_get es n → n ≡ m → slice_get es m ≡ None
none_at es n m is same = ap (slice_get es) (sym same) ∙ sym is

pub one_fewer : (es : List Expr) (ss new : List Shape) (s : Shape) (e : Expr) → slice_get es (length ss) ≡ Some e → new ≡ ss ++ (s ∷ [])
    → length es - length new < length es - length ss
one_fewer es ss new s e at is =
    let inside : length ss < length es = slice_get_within es (length ss) e at in
    let longer : length new ≡ length ss + 1 = ap length is ∙ length-append ss (s ∷ []) in
    omega arith
