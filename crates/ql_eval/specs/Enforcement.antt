-- Enforcement of the namespace, and what it comes to: nothing but the namespace's own entries is seen.
use Rattle.std.specs.Prelude.{◌≡◌, ℕ, List, [], ◌∷◌}
use Rattle.op_base.specs.declared.moment.Moment.{Moment}
use Rattle.op_base.specs.declared.label_names.TheConstants.{NAMESPACE_LABEL}
use Rattle.srv_store.specs.Stores.{Store, of_namespace}
use Rattle.ql_tree.specs.Enforced.{enforced}
use Rattle.ql_tree.specs.declared.tree.Expr.{Expr}
use Rattle.ql_eval.specs.Values.{Around, whole, value_of}

-- a namespace's own entries at a moment; the label that names it is ambient
abbrev pub own : List ℕ → Store → Moment → Around
own namespace store t = record { store = of_namespace namespace store; ambient = (NAMESPACE_LABEL.now, namespace) ∷ []; at = t }

-- over a whole store an expression with the namespace enforced has the value that the expression, as it is
-- written, has over the namespace's own entries
abbrev pub IsEnforcedAlike : Type 0
IsEnforcedAlike = (namespace : List ℕ) (e : Expr) (store : Store) (t : Moment)
    → value_of (whole store t) (enforced NAMESPACE_LABEL.now namespace e) ≡ value_of (own namespace store t) e
