-- What follows where a reader has found something.
use Rattle.std.proofs.Common.{◌≡◌, ◌≤◌, ◌⊎◌, inl, inr, ℕ, Bool, true, false, List, [], ◌∷◌, ◌++◌, Option, Some, None, nat_le, refl, ap, sym, subst, ◌∙◌, append_assoc, if◌then◌else◌}
use Rattle.std.proofs.lemmas.Bool.{leb-true, le-leb}
use Rattle.ql_tree.specs.Children.{depth_of}
use Rattle.ql_tree.specs.declared.tree.Expr.{Expr}
use Rattle.ql_tree.specs.declared.word.Word.{Word}
use Rattle.ql_parse.specs.Found.{Found, Reader, ◌>>=◌, first, behind, ended, with_front, fitting}

pub some_is : {A : Type 0} (y x : A) → Some y ≡ Some x → y ≡ x
some_is y x is = cc

-- what holds of the one answer holds of the other
pub found_is : {A : Type 0} (fact : A → Type 0) (y x : A) → Some y ≡ Some x → fact y → fact x
found_is fact y x is h = subst fact (some_is y x is) h

pub bind_ok : {A B : Type 0} (o : Option A) (f : A → Option B) (y : B) → (o >>= f) ≡ Some y
    → (x : A) × (o ≡ Some x) × (f x ≡ Some y)
bind_ok None f y is = cc is
bind_ok (Some x) f y is = (x, refl, is)

pub test_ok : {A : Type 0} (b : Bool) (o : Option A) (y : A) → (if b then o else None) ≡ Some y
    → (b ≡ true) × (o ≡ Some y)
test_ok true o y is = (refl, is)
test_ok false o y is = cc is

pub if_ok : {A : Type 0} (b : Bool) (o p : Option A) (y : A) → (if b then o else p) ≡ Some y
    → ((b ≡ true) × (o ≡ Some y)) ⊎ ((b ≡ false) × (p ≡ Some y))
if_ok true o p y is = inl (refl, is)
if_ok false o p y is = inr (refl, is)

pub first_ok : {A : Type 0} (meaning : Word → Option A) (ts : List Word) (x : A × List Word)
    → first meaning ts ≡ Some x
    → (w : Word) × (ts ≡ w ∷ x.1) × (meaning w ≡ Some x.0)
first_ok meaning [] x is = cc is
first_ok {A} meaning (w ∷ ts) x is =
    let b = bind_ok (meaning w) _ x is in
    let same : (b.0, ts) ≡ x = some_is {A = A × List Word} (b.0, ts) x b.2 in
    (w, ap (λ (y : A × List Word). w ∷ y.1) same, b.1 ∙ ap (λ (y : A × List Word). Some y.0) same)

pub behind_ok : (is_it : Word → Bool) (ts rest : List Word) → behind is_it ts ≡ Some rest
    → (w : Word) × (ts ≡ w ∷ rest) × (is_it w ≡ true)
behind_ok is_it [] rest is = cc is
behind_ok is_it (w ∷ ts) rest is =
    let t = test_ok (is_it w) (Some ts) rest is in
    (w, ap (λ us. w ∷ us) (some_is ts rest t.1), t.0)

pub ended_ok : {A : Type 0} (o : Option (List Word)) (other : Found (List A))
    (x : List A × List Word) → ended o other ≡ Some x
    → ((o ≡ Some x.1) × ([] ≡ x.0)) ⊎ ((o ≡ None) × (other ≡ Some x))
ended_ok {A} (Some rest) other x is =
    let same : ([], rest) ≡ x = some_is {A = List A × List Word} ([], rest) x is in
    inl (ap (λ (y : List A × List Word). Some y.1) same, ap (λ (y : List A × List Word). y.0) same)
ended_ok None other x is = inr (refl, is)

pub with_front_ok : {A : Type 0} (y : A) (o : Found (List A)) (x : List A × List Word)
    → with_front y o ≡ Some x
    → (z : List A × List Word) × (o ≡ Some z) × ((y ∷ z.0, z.1) ≡ x)
with_front_ok y None x is = cc is
with_front_ok {A} y (Some z) x is = (z, refl, some_is {A = List A × List Word} (y ∷ z.0, z.1) x is)

pub nat_le_ok : (a b : ℕ) → nat_le a b ≡ true → a ≤ b
nat_le_ok a b is = leb-true a b is

pub nat_le_true : (a b : ℕ) → a ≤ b → nat_le a b ≡ true
nat_le_true a b le = le-leb a b le

pub fitting_ok : (d : ℕ) (e : Expr) (rest : List Word) (x : Expr × List Word)
    → fitting d e rest ≡ Some x
    → (depth_of e ≤ d) × ((e, rest) ≡ x)
fitting_ok d e rest x is =
    let t = test_ok (nat_le (depth_of e) d) (Some (e, rest)) x is in
    (nat_le_ok (depth_of e) d t.0, some_is {A = Expr × List Word} (e, rest) x t.1)

pub fitting_fits : (d : ℕ) (e : Expr) (rest : List Word) → depth_of e ≤ d
    → fitting d e rest ≡ Some (e, rest)
fitting_fits d e rest le = rw (nat_le_true (depth_of e) d le) refl

-- the words that were read spell what was found
abbrev pub Spelled : {A : Type 0} → (A → List Word → Type 0) → List Word → A × List Word → Type 0
Spelled P ts x = (us : List Word) × (ts ≡ us ++ x.1) × P x.0 us

-- so do those up to the word that closes
abbrev pub SpelledTo : {A : Type 0} → Word → (A → List Word → Type 0) → List Word → A × List Word
    → Type 0
SpelledTo v P ts x = (us : List Word) × (ts ≡ us ++ (v ∷ x.1)) × P x.0 us

-- whatever the reader finds is spelled
abbrev pub Sound : {A : Type 0} → (A → List Word → Type 0) → Reader A → Type 0
Sound P reader = (ts : List Word) (x : _) → reader ts ≡ Some x → Spelled P ts x

pub joined : (us vs ts ms rest : List Word) → ts ≡ us ++ ms → ms ≡ vs ++ rest
    → ts ≡ (us ++ vs) ++ rest
joined us vs ts ms rest p q = p ∙ ap (λ m. us ++ m) q ∙ sym (append_assoc us vs rest)
