-- Facts about told bytes over several calls in a row.
use Rattle.std.proofs.Common.{ℕ, List, Option, None, Some}
use Rattle.op_edges.specs.Told.{Told}

-- one call after another
pub told_then : (a b c : Option (List ℕ)) (R S T : List ℕ → List ℕ → Type 0) → ((x y z : List ℕ) → R x y → S y z → T x z)
    → Told a b R → Told b c S → Told a c T
told_then None b c R S T joins p q = tt
told_then (Some x) None c R S T joins p q = absurd p
told_then (Some x) (Some y) None R S T joins p q = absurd q
told_then (Some x) (Some y) (Some z) R S T joins p q = joins x y z p q

-- no call
pub told_same : (a : Option (List ℕ)) (R : List ℕ → List ℕ → Type 0) → ((x : List ℕ) → R x x) → Told a a R
told_same None R same = tt
told_same (Some x) R same = same x

-- a fact that follows
pub told_so : (a b : Option (List ℕ)) (R S : List ℕ → List ℕ → Type 0) → ((x y : List ℕ) → R x y → S x y) → Told a b R → Told a b S
told_so None b R S so p = tt
told_so (Some x) None R S so p = absurd p
told_so (Some x) (Some y) R S so p = so x y p

-- two facts of one call
pub told_both : (a b : Option (List ℕ)) (R S T : List ℕ → List ℕ → Type 0) → ((x y : List ℕ) → R x y → S x y → T x y)
    → Told a b R → Told a b S → Told a b T
told_both None b R S T both p q = tt
told_both (Some x) None R S T both p q = absurd p
told_both (Some x) (Some y) R S T both p q = both x y p q
