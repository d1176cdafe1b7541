-- Lists whose keys strictly rise, in any total order.
use Rattle.std.proofs.Common.{◌≡◌, Bool, true, false, cond, ◌&&◌, T, List, [], ◌∷◌, ◌++◌, filter, map, ◌⊎◌, inl, inr, refl, sym, ap, subst, ◌∙◌}
use Rattle.std.specs.declared.cmp.Ordering.{Ordering}
use Rattle.std.specs.declared.cmp.Ordering.TheVariants.{Less, Equal, Greater}
use Rattle.std.specs.Cmp.{IsTotalOrder}
use Rattle.std.specs.FinMap.Entries.{by_order, below_all, is_sorted, is_sorted-put, put}
use Rattle.std.specs.List.{AllByRecursion, flat_map}
use Rattle.std.specs.Ordering.{is_lt}
use Rattle.op_base.specs.Maps.{put_all}

-- a test that holds, as an equation, and back
pub test_is : (b : Bool) → T b → b ≡ true
test_is true h = refl
test_is false h = absurd h

pub is_test : {b : Bool} → b ≡ true → T b
is_test is = subst T (sym is) tt

pub is_less : (r : Ordering) → T (is_lt r) → r ≡ Less
is_less Less h = refl
is_less Equal h = absurd h
is_less Greater h = absurd h

both : (a b : Bool) → T a → T b → T (a && b)
both true b p q = q
both false b p q = p

first : (a b : Bool) → T (a && b) → T a
first true b p = tt
first false b p = p

second : (a b : Bool) → T (a && b) → T b
second true b p = p
second false b p = absurd p

module _ {K : Type 0} (R : K → K → Ordering) where
  -- the key is below those of things
  abbrev pub Below : {X : Type 0} → (X → K) → K → List X → Type 0
  Below key k xs = AllByRecursion (λ x. R k (key x) ≡ Less) xs

  -- the keys of things strictly rise
  abbrev pub Rises : {X : Type 0} → (X → K) → List X → Type 0
  Rises key [] = Unit {0}
  Rises key (x ∷ xs) = Below key (key x) xs × Rises key xs

  module _ {X Y : Type 0} (entry_of : X → K × Y) where
    below-of : (k : K) (xs : List X) → T (below_all R k (map entry_of xs)) → Below (λ x. (entry_of x).0) k xs
    below-of k [] h = tt
    below-of k (x ∷ xs) h = (is_less _ (first _ _ h), below-of k xs (second _ _ h))

    of-below : (k : K) (xs : List X) → Below (λ x. (entry_of x).0) k xs → T (below_all R k (map entry_of xs))
    of-below k [] h = tt
    of-below k (x ∷ xs) h = both _ _ (subst (λ r. T (is_lt r)) (sym h.0) tt) (of-below k xs h.1)

    -- the library's test of things as entries, and what it says
    pub rises-of : (xs : List X) → T (is_sorted R (map entry_of xs)) → Rises (λ x. (entry_of x).0) xs
    rises-of [] h = tt
    rises-of (x ∷ xs) h = (below-of (entry_of x).0 xs (first _ _ h), rises-of xs (second _ _ h))

    pub of-rises : (xs : List X) → Rises (λ x. (entry_of x).0) xs → T (is_sorted R (map entry_of xs))
    of-rises [] h = tt
    of-rises (x ∷ xs) h = both _ _ (of-below (entry_of x).0 xs h.0) (of-rises xs h.1)

  module _ {X : Type 0} where
    -- the same of entries
    below-entries : (k : K) (es : List (K × X)) → T (below_all R k es) → Below (λ e. e.0) k es
    below-entries k [] h = tt
    below-entries k (e ∷ es) h = (is_less _ (first _ _ h), below-entries k es (second _ _ h))

    entries-below : (k : K) (es : List (K × X)) → Below (λ e. e.0) k es → T (below_all R k es)
    entries-below k [] h = tt
    entries-below k (e ∷ es) h = both _ _ (subst (λ r. T (is_lt r)) (sym h.0) tt) (entries-below k es h.1)

    pub rises-entries : (es : List (K × X)) → T (is_sorted R es) → Rises (λ e. e.0) es
    rises-entries [] h = tt
    rises-entries (e ∷ es) h = (below-entries e.0 es (first _ _ h), rises-entries es (second _ _ h))

    pub entries-rise : (es : List (K × X)) → Rises (λ e. e.0) es → T (is_sorted R es)
    entries-rise [] h = tt
    entries-rise (e ∷ es) h = both _ _ (entries-below e.0 es h.0) (entries-rise es h.1)

  -- none, or one that has the key
  abbrev pub IsOneAt : {Y : Type 0} → (Y → K) → K → List Y → Type 0
  IsOneAt {Y} to k ys = (ys ≡ []) ⊎ ((y : Y) × (ys ≡ y ∷ []) × (to y ≡ k))

  module _ {X Y : Type 0} (from : X → K) (to : Y → K) (f : X → List Y) (one : (x : X) → IsOneAt to (from x) (f x)) where
    below-one : (k j : K) (ys rest : List Y) → IsOneAt to j ys → R k j ≡ Less → Below to k rest → Below to k (ys ++ rest)
    below-one k j ys rest (inl none) less h = subst (λ ys. Below to k (ys ++ rest)) (sym none) h
    below-one k j ys rest (inr some) less h =
        subst (λ ys. Below to k (ys ++ rest)) (sym some.1) (ap (R k) some.2 ∙ less, h)

    below-flat : (k : K) (xs : List X) → Below from k xs → Below to k (flat_map f xs)
    below-flat k [] h = tt
    below-flat k (x ∷ xs) h = below-one k (from x) (f x) (flat_map f xs) (one x) h.0 (below-flat k xs h.1)

    rises-one : (j : K) (ys rest : List Y) → IsOneAt to j ys → Below to j rest → Rises to rest → Rises to (ys ++ rest)
    rises-one j ys rest (inl none) below h = subst (λ ys. Rises to (ys ++ rest)) (sym none) h
    rises-one j ys rest (inr some) below h =
        subst (λ ys. Rises to (ys ++ rest)) (sym some.1) (subst (λ k. Below to k rest) (sym some.2) below, h)

    -- things that are made one by one keep the order
    pub rises-flat_map : (xs : List X) → Rises from xs → Rises to (flat_map f xs)
    rises-flat_map [] h = tt
    rises-flat_map (x ∷ xs) h = rises-one (from x) (f x) (flat_map f xs) (one x) (below-flat (from x) xs h.0) (rises-flat_map xs h.1)

  module _ {X : Type 0} (key : X → K) (p : X → Bool) where
    below-filter : (k : K) (xs : List X) → Below key k xs → Below key k (filter p xs)
    below-filter k [] h = tt
    below-filter k (x ∷ xs) h = elim (p x) as (λ b. Below key k (cond b (x ∷ filter p xs) (filter p xs))) [
      | true ↦ (h.0, below-filter k xs h.1)
      | false ↦ below-filter k xs h.1
    ]

    -- what a filter keeps is in order
    pub rises-filter : (xs : List X) → Rises key xs → Rises key (filter p xs)
    rises-filter [] h = tt
    rises-filter (x ∷ xs) h = elim (p x) as (λ b. Rises key (cond b (x ∷ filter p xs) (filter p xs))) [
      | true ↦ (below-filter (key x) xs h.0, rises-filter xs h.1)
      | false ↦ rises-filter xs h.1
    ]

  -- things with other keys that are the same for each of them
  module _ {X : Type 0} (from to : X → K) where
    below-along : (k : K) (xs : List X) → AllByRecursion (λ x. to x ≡ from x) xs → Below from k xs → Below to k xs
    below-along k [] same h = tt
    below-along k (x ∷ xs) same h = (ap (R k) same.0 ∙ h.0, below-along k xs same.1 h.1)

    pub rises-along : (xs : List X) → AllByRecursion (λ x. to x ≡ from x) xs → Rises from xs → Rises to xs
    rises-along [] same h = tt
    rises-along (x ∷ xs) same h = (subst (λ k. Below to k xs) (sym same.0) (below-along (from x) xs same.1 h.0), rises-along xs same.1 h.1)

  -- what holds of entries and of a new one holds after it was put
  pub all-put : {X : Type 0} (P : K × X → Type 0) (k : K) (v : X) (es : List (K × X)) → P (k, v) → ((other : K) → R k other ≡ Equal → P (other, v))
      → AllByRecursion P es → AllByRecursion P (put R k v es)
  all-put P k v [] new tied h = (new, tt)
  all-put P k v (e ∷ es) new tied h =
      elim (R k e.0) as (λ r. R k e.0 ≡ r → AllByRecursion P (by_order r ((k, v) ∷ e ∷ es) ((e.0, v) ∷ es) (e ∷ put R k v es))) [
        | Less ↦ λ _. (new, h)
        | Equal ↦ λ is. (tied e.0 is, h.1)
        | Greater ↦ λ _. (h.0, all-put P k v es new tied h.1)
      ] refl

  -- pairs that are put leave entries in order
  pub sorted-put_all : {X : Type 0} → IsTotalOrder R → (pairs entries : List (K × X)) → T (is_sorted R entries) → T (is_sorted R (put_all R entries pairs))
  sorted-put_all o [] entries h = h
  sorted-put_all o (pair ∷ pairs) entries h = sorted-put_all o pairs (put R pair.0 pair.1 entries) (is_sorted-put R o pair.0 pair.1 entries h)

  -- what has the same keys is in order
  module _ {X Y : Type 0} (from : X → K) (to : Y → K) (f : X → Y) (same : (x : X) → to (f x) ≡ from x) where
    below-map : (k : K) (xs : List X) → Below from k xs → Below to k (map f xs)
    below-map k [] h = tt
    below-map k (x ∷ xs) h = (ap (R k) (same x) ∙ h.0, below-map k xs h.1)

    pub rises-map : (xs : List X) → Rises from xs → Rises to (map f xs)
    rises-map [] h = tt
    rises-map (x ∷ xs) h = (subst (λ k. Below to k (map f xs)) (sym (same x)) (below-map (from x) xs h.0), rises-map xs h.1)
