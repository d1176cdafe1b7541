-- The objects of one namespace among all that are present.
use Rattle.std.proofs.Common.{◌≡◌, ℕ, Bool, true, false, cond, ◌&&◌, T, List, [], ◌∷◌, ◌++◌, filter, unwrap_or, Some, nat_eq, refl, sym, ap, subst, ◌∙◌, append-nil}
use Rattle.std.proofs.lemmas.List.Elements.{filter-append}
use Rattle.std.specs.List.{AllByRecursion}
use Rattle.std.specs.declared.cmp.Ordering.{Ordering}
use Rattle.std.specs.declared.cmp.Ordering.TheVariants.{Less, Equal, Greater}
use Rattle.std.specs.Ordering.{nat_cmp, is_eq, is_lt, eq_by_cmp}
use Rattle.std.specs.Cmp.Lexicographic.{pointwise, bytes_decides, slice_cmp, nat_list_cmp_total, texts_ties}
use Rattle.std.specs.FinMap.Entries.{by_order, put, is_sorted, below_all, is_sorted-put, find-put}
use Rattle.op_base.specs.Names.{is_namespace}
use Rattle.op_base.specs.Maps.{Map, value_at, values_of, with_entry, with_inner}
use Rattle.op_thin.specs.Objects.{inner_at, all_of}
use Rattle.srv_store.proofs.OrderLemmas.{text_same}

abbrev by_bytes : List ℕ → List ℕ → Ordering
by_bytes = slice_cmp nat_cmp

-- names that are another don't tie
pub not_tied : (n m : List ℕ) → pointwise nat_eq n m ≡ false → eq_by_cmp by_bytes n m ≡ false
not_tied n m other = sym (texts_ties n m) ∙ other

pub tied : (n : List ℕ) → eq_by_cmp by_bytes n n ≡ true
tied n = sym (texts_ties n n) ∙ (bytes_decides n n).1 refl

abbrev pub is_at : {X : Type 0} → (X → List ℕ) → List ℕ → X → Bool
is_at home n x = pointwise nat_eq n (home x)

module _ {X : Type 0} (home : X → List ℕ) (Q : X → Type 0) where
  -- the objects of a namespace name it, and are as they have to be
  abbrev pub AtHome : List ℕ → Map X → Type 0
  AtHome m inner = AllByRecursion (λ (e : List ℕ × X). (home e.1 ≡ m) × Q e.1) inner

  abbrev pub Good : Map (Map X) → Type 0
  Good objects =
      T (is_sorted by_bytes objects) × AllByRecursion (λ (e : List ℕ × Map X). AtHome e.0 e.1 × (is_namespace e.0 ≡ true)) objects

  all_at : (n : List ℕ) (inner : Map X) → AtHome n inner → filter (is_at home n) (values_of inner) ≡ values_of inner
  all_at n [] h = refl
  all_at n (e ∷ inner) h =
      ap (λ m. cond (pointwise nat_eq n m) (e.1 ∷ filter (is_at home n) (values_of inner)) (filter (is_at home n) (values_of inner))) h.0.0
      ∙ ap (λ b. cond b (e.1 ∷ filter (is_at home n) (values_of inner)) (filter (is_at home n) (values_of inner))) ((bytes_decides n n).1 refl)
      ∙ ap (λ l. e.1 ∷ l) (all_at n inner h.1)

  none_at : (n m : List ℕ) (inner : Map X) → pointwise nat_eq n m ≡ false → AtHome m inner → filter (is_at home n) (values_of inner) ≡ []
  none_at n m [] other h = refl
  none_at n m (e ∷ inner) other h =
      ap (λ k. cond (pointwise nat_eq n k) (e.1 ∷ filter (is_at home n) (values_of inner)) (filter (is_at home n) (values_of inner))) h.0.0
      ∙ ap (λ b. cond b (e.1 ∷ filter (is_at home n) (values_of inner)) (filter (is_at home n) (values_of inner))) other
      ∙ none_at n m inner other h.1

  abbrev Homes : Map (Map X) → Type 0
  Homes objects = AllByRecursion (λ (e : List ℕ × Map X). AtHome e.0 e.1 × (is_namespace e.0 ≡ true)) objects

  -- none above it in order is the namespace's
  none_above : (n : List ℕ) (objects : Map (Map X)) → T (below_all by_bytes n objects) → Homes objects → filter (is_at home n) (all_of objects) ≡ []
  none_above n [] below h = refl
  none_above n (e ∷ objects) below h =
      let apart : pointwise nat_eq n e.0 ≡ false = texts_ties n e.0 ∙ not_equal (by_bytes n e.0) (lower (is_lt (by_bytes n e.0)) (below_all by_bytes n objects) below) in
      filter-append (is_at home n) (values_of e.1) (all_of objects)
      ∙ ap (λ l. l ++ filter (is_at home n) (all_of objects)) (none_at n e.0 e.1 apart h.0.0)
      ∙ none_above n objects (upper (is_lt (by_bytes n e.0)) (below_all by_bytes n objects) below) h.1
    where
      not_equal : (o : Ordering) → T (is_lt o) → is_eq o ≡ false
      not_equal Less p = refl
      not_equal Equal p = absurd p
      not_equal Greater p = refl

      lower : (a b : Bool) → T (a && b) → T a
      lower true b p = tt
      lower false b p = p

      upper : (a b : Bool) → T (a && b) → T b
      upper true b p = p
      upper false b p = absurd p

  -- the namespace's among all are those that it has
  pub all-at : (n : List ℕ) (objects : Map (Map X)) → Good objects → filter (is_at home n) (all_of objects) ≡ values_of (inner_at objects n)
  all-at n [] h = refl
  all-at n (e ∷ objects) (sorted, homes) =
      filter-append (is_at home n) (values_of e.1) (all_of objects)
      ∙ elim (pointwise nat_eq n e.0) as (λ b. pointwise nat_eq n e.0 ≡ b → filter (is_at home n) (values_of e.1) ++ filter (is_at home n) (all_of objects) ≡ values_of (inner_at (e ∷ objects) n)) [
        | true ↦ λ own.
            let is = (bytes_decides n e.0).0 own in
            ap (λ l. l ++ filter (is_at home n) (all_of objects)) (all_at n e.1 (subst (λ m. AtHome m e.1) (sym is) homes.0.0))
            ∙ ap (λ l. values_of e.1 ++ l) (none_above n objects (subst (λ m. T (below_all by_bytes m objects)) (sym is) (first (below_all by_bytes e.0 objects) (is_sorted by_bytes objects) sorted)) homes.1)
            ∙ append-nil (values_of e.1)
            ∙ ap (λ b. values_of (unwrap_or (cond b (Some e.1) (value_at objects n)) [])) (sym (sym (texts_ties n e.0) ∙ own))
        | false ↦ λ other.
            ap (λ l. l ++ filter (is_at home n) (all_of objects)) (none_at n e.0 e.1 other homes.0.0)
            ∙ all-at n objects (second (below_all by_bytes e.0 objects) (is_sorted by_bytes objects) sorted, homes.1)
            ∙ ap (λ b. values_of (unwrap_or (cond b (Some e.1) (value_at objects n)) [])) (sym (not_tied n e.0 other))
      ] refl
    where
      first : (a b : Bool) → T (a && b) → T a
      first true b p = tt
      first false b p = p

      second : (a b : Bool) → T (a && b) → T b
      second true b p = p
      second false b p = absurd p

  at_home-put : (m : List ℕ) (name : List ℕ) (x : X) (inner : Map X) → (home x ≡ m) × Q x → AtHome m inner → AtHome m (with_entry inner name x)
  at_home-put m name x [] own h = (own, tt)
  at_home-put m name x (e ∷ inner) own h =
      elim (by_bytes name e.0) as (λ o. AtHome m (by_order o ((name, x) ∷ e ∷ inner) ((e.0, x) ∷ inner) (e ∷ put by_bytes name x inner))) [
        | Less ↦ (own, h)
        | Equal ↦ (own, h.1)
        | Greater ↦ (h.0, at_home-put m name x inner own h.1)
      ]

  at_home-inner : (m : List ℕ) (objects : Map (Map X)) → Homes objects → AtHome m (inner_at objects m)
  at_home-inner m [] h = tt
  at_home-inner m (e ∷ objects) h =
      elim (by_bytes m e.0) as (λ o. by_bytes m e.0 ≡ o → AtHome m (unwrap_or (cond (is_eq o) (Some e.1) (value_at objects m)) [])) [
        | Less ↦ λ _. at_home-inner m objects h.1
        | Equal ↦ λ is. subst (λ k. AtHome k e.1) (sym (text_same m e.0 is)) h.0.0
        | Greater ↦ λ _. at_home-inner m objects h.1
      ] refl

  homes-put : (m : List ℕ) (inner : Map X) (objects : Map (Map X)) → AtHome m inner → is_namespace m ≡ true → Homes objects → Homes (with_entry objects m inner)
  homes-put m inner [] own named h = ((own, named), tt)
  homes-put m inner (e ∷ objects) own named h =
      elim (by_bytes m e.0) as (λ o. by_bytes m e.0 ≡ o → Homes (by_order o ((m, inner) ∷ e ∷ objects) ((e.0, inner) ∷ objects) (e ∷ put by_bytes m inner objects))) [
        | Less ↦ λ _. ((own, named), h)
        | Equal ↦ λ is. ((subst (λ k. AtHome k inner) (text_same m e.0 is) own, h.0.1), h.1)
        | Greater ↦ λ _. (h.0, homes-put m inner objects own named h.1)
      ] refl

  -- objects stay good
  pub good-with : (objects : Map (Map X)) (name : List ℕ) (x : X) → is_namespace (home x) ≡ true → Q x → Good objects → Good (with_inner objects (home x) name x)
  good-with objects name x named fine (sorted, homes) =
      let inner = with_entry (inner_at objects (home x)) name x in (
        is_sorted-put by_bytes nat_list_cmp_total (home x) inner objects sorted,
        homes-put (home x) inner objects (at_home-put (home x) name x (inner_at objects (home x)) (refl, fine) (at_home-inner (home x) objects homes)) named homes,
      )

  -- what holds of each such object in a namespace holds of all
  pub all-homes : (P : X → Type 0) → ((x : X) → is_namespace (home x) ≡ true → Q x → P x) → (objects : Map (Map X)) → Good objects → AllByRecursion P (all_of objects)
  all-homes P holds [] h = tt
  all-homes P holds (e ∷ objects) (sorted, homes) =
      joined (values_of e.1) (all_of objects) (each e.1 homes.0.0) (all-homes P holds objects (second (below_all by_bytes e.0 objects) (is_sorted by_bytes objects) sorted, homes.1))
    where
      second : (a b : Bool) → T (a && b) → T b
      second true b p = p
      second false b p = absurd p

      each : (inner : Map X) → AtHome e.0 inner → AllByRecursion P (values_of inner)
      each [] h = tt
      each (f ∷ inner) h = (holds f.1 (subst (λ m. is_namespace m ≡ true) (sym h.0.0) homes.0.1) h.0.1, each inner h.1)

      joined : (xs ys : List X) → AllByRecursion P xs → AllByRecursion P ys → AllByRecursion P (xs ++ ys)
      joined [] ys p q = q
      joined (x ∷ xs) ys p q = (p.0, joined xs ys p.1 q)

-- an object that is put is there for its namespace alone
module _ {X : Type 0} (home : X → List ℕ) where
  pub inner-own : (objects : Map (Map X)) (name : List ℕ) (x : X) → inner_at (with_inner objects (home x) name x) (home x) ≡ with_entry (inner_at objects (home x)) name x
  inner-own objects name x =
      ap (λ o. unwrap_or o []) (find-put by_bytes nat_list_cmp_total (home x) (home x) (with_entry (inner_at objects (home x)) name x) objects)
      ∙ ap (λ b. unwrap_or (cond b (Some (with_entry (inner_at objects (home x)) name x)) (value_at objects (home x))) []) (tied (home x))

  pub inner-other : (n : List ℕ) (objects : Map (Map X)) (name : List ℕ) (x : X) → pointwise nat_eq n (home x) ≡ false → inner_at (with_inner objects (home x) name x) n ≡ inner_at objects n
  inner-other n objects name x other =
      ap (λ o. unwrap_or o []) (find-put by_bytes nat_list_cmp_total n (home x) (with_entry (inner_at objects (home x)) name x) objects)
      ∙ ap (λ b. unwrap_or (cond b (Some (with_entry (inner_at objects (home x)) name x)) (value_at objects n)) []) (not_tied n (home x) other)
