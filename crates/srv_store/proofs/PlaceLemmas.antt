-- Lists of entries in the order of their keys: the place of a key, and what stands there.
use Rattle.std.proofs.Common.{◌≡◌, ℕ, zero, suc, ◌+◌, ◌<◌, ◌≤◌, Bool, true, false, ◌&&◌, T, List, [], ◌∷◌, length, cond, get_or, Option, Some, None, is_some, slice_get, if◌then◌else◌, refl, ap, sym, subst, ◌∙◌, arith}
use mathlib.Core.Bool.{true≢false}
use Rattle.std.specs.declared.cmp.Ordering.{Ordering}
use Rattle.std.specs.declared.cmp.Ordering.TheVariants.{Less, Equal, Greater}
use Rattle.std.specs.Cmp.{IsTotalOrder, first_so, second_so}
use Rattle.std.specs.FinMap.Entries.{by_order, find, put, below_all, is_sorted, is_sorted-put}
use Rattle.std.specs.List.{insert, prefix_len}
use Rattle.std.specs.List.Sorted.{IsPartitionedBy, IsPartitionPoint}
use Rattle.std.specs.Option.{option_map_or}
use Rattle.std.specs.Ordering.{is_lt, is_eq, is_gt, ordering_reverse}
use Rattle.std.proofs.lemmas.List.Sums.{prefix_len_is, prefix_len-le-length}
use Rattle.srv_store.specs.Runs.{front, place_in, with_new}

-- a test that holds, as the library takes it, and back
pub test_of : {b : Bool} → b ≡ true → T b
test_of is = subst T (sym is) tt

pub true_of : (b : Bool) → T b → b ≡ true
true_of true h = refl
true_of false h = absurd h

pub is_less : (r : Ordering) → is_lt r ≡ true → r ≡ Less
is_less Less h = refl
is_less Equal h = absurd (true≢false (sym h))
is_less Greater h = absurd (true≢false (sym h))

is_greater : (r : Ordering) → is_gt r ≡ true → r ≡ Greater
is_greater Less h = absurd (true≢false (sym h))
is_greater Equal h = absurd (true≢false (sym h))
is_greater Greater h = refl

pub is_tied : (r : Ordering) → is_eq r ≡ true → r ≡ Equal
is_tied Less h = absurd (true≢false (sym h))
is_tied Equal h = refl
is_tied Greater h = absurd (true≢false (sym h))

pub none_of : {A : Type 0} (o : Option A) → is_some o ≡ false → o ≡ None
none_of None h = refl
none_of (Some x) h = absurd (true≢false h)

pub both_so : (a b : Bool) → a ≡ true → b ≡ true → (a && b) ≡ true
both_so true b h k = k
both_so false b h k = h

-- the library's count of a front is the same
front-prefix : {X : Type 0} (p : X → Bool) (xs : List X) → prefix_len p xs ≡ front p xs
front-prefix p [] = refl
front-prefix p (x ∷ xs) = elim (p x) as (λ b. cond b (1 + prefix_len p xs) 0 ≡ cond b (suc (front p xs)) 0) [
  | true ↦ omega (arith, front-prefix p xs)
  | false ↦ refl
]

pub front-le : {X : Type 0} (p : X → Bool) (xs : List X) → front p xs ≤ length xs
front-le p xs = omega (arith, front-prefix p xs, prefix_len-le-length p xs)

-- a partition point is where the test stops to hold
pub point_is : {X : Type 0} (p : X → Bool) (xs : List X) (i : ℕ) → i ≤ length xs → IsPartitionPoint (λ x. p x ≡ true) (λ x. p x ≡ false) xs i → i ≡ front p xs
point_is p [] i within point = omega arith
point_is p (x ∷ xs) i within point =
    sym (prefix_len_is p (x ∷ xs) i x within (λ k below. point.0 k x (omega arith) below) (λ inside. point.1 i x (omega arith) inside))
    ∙ front-prefix p (x ∷ xs)

-- what stands above one key stands above those before it
above_first : {K : Type 0} (R : K → K → Ordering) → IsTotalOrder R → (key x y : K) → R x y ≡ Less → is_gt (R key y) ≡ true → is_gt (R key x) ≡ true
above_first R o key x y h above =
    let back : R y key ≡ Less = o.antisymm y key ∙ ap ordering_reverse (is_greater _ above) in
    let less : R x key ≡ Less = o.trans x y key h back in
    ap is_gt (o.antisymm key x ∙ ap ordering_reverse less)

module _ {K X : Type 0} (R : K → K → Ordering) (o : IsTotalOrder R) where
  -- a key below another is below what that is below
  pub below_further : (x y : K) (es : List (K × X)) → R x y ≡ Less → below_all R y es ≡ true → below_all R x es ≡ true
  below_further x y [] h below = refl
  below_further x y (e ∷ es) h below =
      both_so _ _ (ap is_lt (o.trans x y e.0 h (is_less _ (first_so _ _ below)))) (below_further x y es h (second_so _ _ below))

  -- and isn't among them
  pub find_under : (x : K) (es : List (K × X)) → below_all R x es ≡ true → find R x es ≡ None
  find_under x [] below = refl
  find_under x (e ∷ es) below =
      ap (λ r. cond (is_eq r) (Some e.1) (find R x es)) (is_less _ (first_so _ _ below)) ∙ find_under x es (second_so _ _ below)

  pub below_at : (x : K) (es : List (K × X)) (j : ℕ) (d : K × X) → below_all R x es ≡ true → j < length es → R x (get_or es j d).0 ≡ Less
  below_at x [] j d below inside = absurd (omega arith)
  below_at x (e ∷ es) zero d below inside = is_less _ (first_so _ _ below)
  below_at x (e ∷ es) (suc j) d below inside = below_at x es j d (second_so _ _ below) (omega arith)

  -- a test that holds of each key before one of which it holds parts a list in order
  module _ (p : K → Bool) (falls : (x y : K) → R x y ≡ Less → p y ≡ true → p x ≡ true) where
    pub parted_by : (es : List (K × X)) → is_sorted R es ≡ true → IsPartitionedBy (λ e. p e.0) es
    parted_by [] sorted i j d order inside holds = absurd (omega arith)
    parted_by (e ∷ es) sorted zero zero d order inside holds = holds
    parted_by (e ∷ es) sorted zero (suc j) d order inside holds =
        falls e.0 (get_or es j d).0 (below_at e.0 es j d (first_so _ _ sorted) (omega arith)) holds
    parted_by (e ∷ es) sorted (suc i) zero d order inside holds = absurd (omega arith)
    parted_by (e ∷ es) sorted (suc i) (suc j) d order inside holds = parted_by es (second_so _ _ sorted) i j d (omega arith) (omega arith) holds

  pub parted : (key : K) (es : List (K × X)) → is_sorted R es ≡ true → IsPartitionedBy (λ e. is_gt (R key e.0)) es
  parted key es sorted = parted_by (λ x. is_gt (R key x)) (above_first R o key) es sorted

  -- the entry at the place of a key has it, where one does
  here-find : (key : K) (es : List (K × X)) → is_sorted R es ≡ true → option_map_or (λ e. is_eq (R key e.0)) (slice_get es (place_in R key es)) false ≡ is_some (find R key es)
  here-find key [] sorted = refl
  here-find key (e ∷ es) sorted =
      elim (R key e.0) as (λ r. R key e.0 ≡ r → option_map_or (λ f. is_eq (R key f.0)) (slice_get (e ∷ es) (cond (is_gt r) (suc (place_in R key es)) 0)) false ≡ is_some (cond (is_eq r) (Some e.1) (find R key es))) [
        | Less ↦ λ is. ap is_eq is ∙ sym (ap is_some (find_under key es (below_further key e.0 es is (first_so _ _ sorted))))
        | Equal ↦ λ is. ap is_eq is
        | Greater ↦ λ is. here-find key es (second_so _ _ sorted)
      ] refl

  put-free : (key : K) (value : X) (es : List (K × X)) → option_map_or (λ e. is_eq (R key e.0)) (slice_get es (place_in R key es)) false ≡ false → insert es (place_in R key es) (key, value) ≡ put R key value es
  put-free key value [] free = refl
  put-free key value (e ∷ es) free =
      elim (R key e.0) as (λ r. R key e.0 ≡ r → option_map_or (λ f. is_eq (R key f.0)) (slice_get (e ∷ es) (cond (is_gt r) (suc (place_in R key es)) 0)) false ≡ false
      → insert (e ∷ es) (cond (is_gt r) (suc (place_in R key es)) 0) (key, value) ≡ by_order r ((key, value) ∷ e ∷ es) ((e.0, value) ∷ es) (e ∷ put R key value es)) [
        | Less ↦ λ is f. refl
        | Equal ↦ λ is f. absurd (true≢false (sym (ap is_eq is) ∙ f))
        | Greater ↦ λ is f. ap (λ l. e ∷ l) (put-free key value es f)
      ] refl free

  -- a key that is there keeps its entries
  pub new_here : (key : K) (value : X) (es : List (K × X)) (place : ℕ) → is_sorted R es ≡ true → place ≡ place_in R key es
      → option_map_or (λ e. is_eq (R key e.0)) (slice_get es place) false ≡ true → (is_some (find R key es) ≡ true) × (es ≡ with_new R key value es)
  new_here key value es place sorted at found =
      let held : is_some (find R key es) ≡ true = sym (here-find key es sorted) ∙ ap (λ n. option_map_or (λ e. is_eq (R key e.0)) (slice_get es n) false) (sym at) ∙ found in
      (held, ap (λ b. if b then es else put R key value es) (sym held))

  -- another is put at its place
  pub new_free : (key : K) (value : X) (es : List (K × X)) (place : ℕ) → is_sorted R es ≡ true → place ≡ place_in R key es
      → option_map_or (λ e. is_eq (R key e.0)) (slice_get es place) false ≡ false → (is_some (find R key es) ≡ false) × (insert es place (key, value) ≡ with_new R key value es)
  new_free key value es place sorted at free =
      let free_at = ap (λ n. option_map_or (λ e. is_eq (R key e.0)) (slice_get es n) false) (sym at) ∙ free in
      let missing : is_some (find R key es) ≡ false = sym (here-find key es sorted) ∙ free_at in
      (missing, ap (λ n. insert es n (key, value)) at ∙ put-free key value es free_at ∙ ap (λ b. if b then es else put R key value es) (sym missing))

  pub sorted-with_new : (key : K) (value : X) (es : List (K × X)) → is_sorted R es ≡ true → is_sorted R (with_new R key value es) ≡ true
  sorted-with_new key value es sorted =
      elim (is_some (find R key es)) as (λ b. is_sorted R (if b then es else put R key value es) ≡ true) [
        | true ↦ sorted
        | false ↦ true_of _ (is_sorted-put R o key value es (test_of sorted))
      ]
