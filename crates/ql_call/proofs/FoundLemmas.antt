-- What is found at a key of entries that are put, filtered, taken or made of others, in any total order whose
-- ties are equal.
use Rattle.std.proofs.Common.{◌≡◌, ℕ, zero, suc, ◌+◌, Bool, true, false, cond, ◌&&◌, ◌||◌, List, [], ◌∷◌, ◌++◌, Option, Some, None, filter, is_some, take, ltb, refl, sym, ap, ◌∙◌, ⊎_elim, ◌<◌, ◌≤◌, arith}
use mathlib.Core.Bool.{true≢false}
use Rattle.std.proofs.Math.Bool.{and-false, or-true}
use Rattle.std.proofs.lemmas.Bool.{cases_lt, lt-ltb, le-ltb}
use Rattle.std.proofs.lemmas.List.Sums.{sum_by-cons}
use Rattle.std.specs.declared.cmp.Ordering.{Ordering}
use Rattle.std.specs.declared.cmp.Ordering.TheVariants.{Less, Equal, Greater}
use Rattle.std.specs.Cmp.{IsTotalOrder, Equal-is, tied_itself}
use Rattle.std.specs.FinMap.Entries.{by_order, find, put, find-put}
use Rattle.std.specs.List.{AllByRecursion, count_by, list_any}
use Rattle.std.specs.Ordering.{eq_by_cmp, is_eq, is_lt, ordering_reverse}
use Rattle.op_base.specs.Labels.{Texts, labels_ties}
use Rattle.srv_store.specs.Stores.{same_labels}
use Rattle.op_base.specs.Maps.{put_all}
use Rattle.srv_store.proofs.OrderLemmas.{labels_total}
use Rattle.srv_store.proofs.RisingLemmas.{Below, Rises}

-- labels are equal to themselves
pub same_labels-itself : (labels : Texts) → same_labels labels labels ≡ true
same_labels-itself labels = labels_ties labels labels ∙ ap is_eq (tied_itself labels_total labels)

-- a count of one thing more
counted : (b : Bool) (n : ℕ) → cond b 1 0 + n ≡ cond b (suc n) n
counted true n = omega arith
counted false n = omega arith

less_more : (c n : ℕ) → ltb (suc c) (suc n) ≡ ltb c n
less_more c n = ⊎_elim
    (λ (h : c < n). lt-ltb (suc c) (suc n) (omega arith) ∙ sym (lt-ltb c n h))
    (λ (h : n ≤ c). le-ltb (suc c) (suc n) (omega arith) ∙ sym (le-ltb c n h))
    (cases_lt c n)

-- of two choices by one test there is one where there is the other
pub some-either : {X : Type 0} (b : Bool) (x : X) (a c : Option X) → is_some a ≡ is_some c → is_some (cond b (Some x) a) ≡ is_some (cond b (Some x) c)
some-either true x a c same = refl
some-either false x a c same = same

-- what holds of each thing, and what follows from it
pub all-so : {X : Type 0} (P Q : X → Type 0) → ((x : X) → P x → Q x) → (xs : List X) → AllByRecursion P xs → AllByRecursion Q xs
all-so P Q so [] h = tt
all-so P Q so (x ∷ xs) h = (so x h.0, all-so P Q so xs h.1)

-- what holds of each thing holds of those that a filter keeps, and of the first ones
pub all-filter : {X : Type 0} (P : X → Type 0) (p : X → Bool) (xs : List X) → AllByRecursion P xs → AllByRecursion (λ x. P x × (p x ≡ true)) (filter p xs)
all-filter P p [] h = tt
all-filter P p (x ∷ xs) h =
    elim (p x) as (λ b. p x ≡ b → AllByRecursion (λ x. P x × (p x ≡ true)) (cond b (x ∷ filter p xs) (filter p xs))) [
      | true ↦ λ is. ((h.0, is), all-filter P p xs h.1)
      | false ↦ λ _. all-filter P p xs h.1
    ] refl

pub all-take : {X : Type 0} (P : X → Type 0) (n : ℕ) (xs : List X) → AllByRecursion P xs → AllByRecursion P (take n xs)
all-take P zero xs h = tt
all-take P (suc n) [] h = tt
all-take P (suc n) (x ∷ xs) h = (h.0, all-take P n xs h.1)

pub all-append : {X : Type 0} (P : X → Type 0) (xs ys : List X) → AllByRecursion P xs → AllByRecursion P ys → AllByRecursion P (xs ++ ys)
all-append P [] ys g h = h
all-append P (x ∷ xs) ys g h = (g.0, all-append P xs ys g.1 h)

module _ {K X : Type 0} (R : K → K → Ordering) where
  -- a key is there
  abbrev pub has : K → List (K × X) → Bool
  has q es = is_some (find R q es)

  -- how many entries are before a key
  abbrev pub before : K → List (K × X) → ℕ
  before q es = count_by (λ e. is_lt (R e.0 q)) es

  pub has-append : (q : K) (es fs : List (K × X)) → has q (es ++ fs) ≡ (has q es || has q fs)
  has-append q [] fs = refl
  has-append q (e ∷ es) fs =
      elim (eq_by_cmp R q e.0) as (λ b. is_some (cond b (Some e.1) (find R q (es ++ fs))) ≡ (is_some (cond b (Some e.1) (find R q es)) || has q fs)) [
        | true ↦ refl
        | false ↦ has-append q es fs
      ]

  module _ (o : IsTotalOrder R) where
    -- what ties with a key below others isn't among them
    pub none-above : (q k : K) (es : List (K × X)) → eq_by_cmp R q k ≡ true → Below R (λ e. e.0) k es → find R q es ≡ None
    none-above q k [] tied h = refl
    none-above q k (e ∷ es) tied h =
        ap (λ r. cond (is_eq r) (Some e.1) (find R q es)) (o.congr q k e.0 ((Equal-is (R q k)).0 tied) ∙ h.0) ∙ none-above q k es tied h.1

    -- nor is what is below them
    none-below : (q k : K) (es : List (K × X)) → R q k ≡ Less → Below R (λ e. e.0) k es → find R q es ≡ None
    none-below q k [] less h = refl
    none-below q k (e ∷ es) less h =
        ap (λ r. cond (is_eq r) (Some e.1) (find R q es)) (o.trans q k e.0 less h.0) ∙ none-below q k es less h.1

    found-later : (x : K × X) (xs ys : List (K × X)) → Below R (λ e. e.0) x.0 ys → AllByRecursion (λ e. find R e.0 xs ≡ Some e.1) ys
        → AllByRecursion (λ e. find R e.0 (x ∷ xs) ≡ Some e.1) ys
    found-later x xs [] below h = tt
    found-later x xs (y ∷ ys) below h =
        (ap (λ r. cond (is_eq r) (Some x.1) (find R y.0 xs)) (o.antisymm y.0 x.0 ∙ ap ordering_reverse below.0) ∙ h.0, found-later x xs ys below.1 h.1)

    -- each entry is found at its key
    pub found-itself : (es : List (K × X)) → Rises R (λ e. e.0) es → AllByRecursion (λ e. find R e.0 es ≡ Some e.1) es
    found-itself [] h = tt
    found-itself (x ∷ xs) h =
        (ap (λ r. cond (is_eq r) (Some x.1) (find R x.0 xs)) (tied_itself o x.0), found-later x xs xs h.0 (found-itself xs h.1))

    -- a key is there where a pair has it or it was there
    pub has-put_all : (q : K) (pairs entries : List (K × X)) → has q (put_all R entries pairs) ≡ (has q pairs || has q entries)
    has-put_all q [] entries = refl
    has-put_all q (e ∷ pairs) entries =
        has-put_all q pairs (put R e.0 e.1 entries)
        ∙ ap (λ found. has q pairs || is_some found) (find-put R o q e.0 e.1 entries)
        ∙ elim (eq_by_cmp R q e.0) as (λ b. (has q pairs || is_some (cond b (Some e.1) (find R q entries))) ≡ (is_some (cond b (Some e.1) (find R q pairs)) || has q entries)) [
          | true ↦ or-true (has q pairs)
          | false ↦ refl
        ]

    -- where all pairs that tie with a key have one value, it is the one that is found after they were put
    pub found-put_all : (q : K) (found : Option X) (pairs entries : List (K × X))
        → AllByRecursion (λ e. eq_by_cmp R q e.0 ≡ true → Some e.1 ≡ found) pairs
        → find R q (put_all R entries pairs) ≡ cond (has q pairs) found (find R q entries)
    found-put_all q found [] entries h = refl
    found-put_all q found (e ∷ pairs) entries h =
        found-put_all q found pairs (put R e.0 e.1 entries) h.1
        ∙ ap (cond (has q pairs) found) (find-put R o q e.0 e.1 entries)
        ∙ elim (eq_by_cmp R q e.0) as (λ b. (b ≡ true → Some e.1 ≡ found)
        → cond (has q pairs) found (cond b (Some e.1) (find R q entries)) ≡ cond (is_some (cond b (Some e.1) (find R q pairs))) found (find R q entries)) [
          | true ↦ λ is. ap (cond (has q pairs) found) (is refl) ∙ same_both (has q pairs) found
          | false ↦ λ _. refl
        ] h.0
      where
        same_both : (b : Bool) (x : Option X) → cond b x x ≡ x
        same_both true x = refl
        same_both false x = refl

    before-none : (q k : K) (es : List (K × X)) → eq_by_cmp R q k ≡ true → Below R (λ e. e.0) k es → before q es ≡ 0
    before-none q k [] tied h = refl
    before-none q k (e ∷ es) tied h =
        let rest : before q es ≡ 0 = before-none q k es tied h.1 in
        let above : R e.0 q ≡ Greater = o.antisymm e.0 q ∙ ap ordering_reverse (o.congr q k e.0 ((Equal-is (R q k)).0 tied) ∙ h.0) in
        sum_by-cons (λ (e : K × X). cond (is_lt (R e.0 q)) 1 0) e es ∙ (λ i. cond (is_lt (above i)) 1 0 + rest i)

    -- of entries in order the first n have a key where fewer than n are before it
    pub has-take : (q : K) (n : ℕ) (es : List (K × X)) → Rises R (λ e. e.0) es → has q (take n es) ≡ (has q es && ltb (before q es) n)
    has-take q zero es h = sym (ap (λ b. has q es && b) (le-ltb (before q es) 0 (omega arith)) ∙ and-false (has q es))
    has-take q (suc n) [] h = refl
    has-take q (suc n) (e ∷ es) h =
        elim (R q e.0) as (λ r. R q e.0 ≡ r → is_some (cond (is_eq r) (Some e.1) (find R q (take n es)))
        ≡ (is_some (cond (is_eq r) (Some e.1) (find R q es)) && ltb (before q (e ∷ es)) (suc n))) [
          | Less ↦ λ less.
              let none : find R q es ≡ None = none-below q e.0 es less h.0 in
              has-take q n es h.1 ∙ ap (λ found. is_some found && ltb (before q es) n) none ∙ sym (ap (λ found. is_some found && ltb (before q (e ∷ es)) (suc n)) none)
          | Equal ↦ λ tied.
              let level : R e.0 q ≡ Equal = o.antisymm e.0 q ∙ ap ordering_reverse tied in
              let count : before q (e ∷ es) ≡ 0 =
              sum_by-cons (λ (e : K × X). cond (is_lt (R e.0 q)) 1 0) e es ∙ (λ i. cond (is_lt (level i)) 1 0 + before-none q e.0 es (ap is_eq tied) h.0 i) in
              sym (ap (λ c. ltb c (suc n)) count ∙ lt-ltb 0 (suc n) (omega arith))
          | Greater ↦ λ above.
              let less : R e.0 q ≡ Less = o.antisymm e.0 q ∙ ap ordering_reverse above in
              let count : before q (e ∷ es) ≡ suc (before q es) =
              sum_by-cons (λ (e : K × X). cond (is_lt (R e.0 q)) 1 0) e es ∙ ap (λ r. cond (is_lt r) 1 0 + before q es) less ∙ counted true (before q es) in
              has-take q n es h.1 ∙ sym (ap (λ b. has q es && b) (ap (λ c. ltb c (suc n)) count ∙ less_more (before q es) n))
        ] refl

    -- what is told of an entry that is put where its key isn't there yet is told of one more
    pub count-put : (p : K → Bool) (k : K) (v : X) (es : List (K × X)) → has k es ≡ false
        → count_by (λ e. p e.0) (put R k v es) ≡ cond (p k) 1 0 + count_by (λ e. p e.0) es
    count-put p k v [] free = sum_by-cons (λ (e : K × X). cond (p e.0) 1 0) (k, v) []
    count-put p k v (e ∷ es) free =
        elim (R k e.0) as (λ r. is_some (cond (is_eq r) (Some e.1) (find R k es)) ≡ false
        → count_by (λ e. p e.0) (by_order r ((k, v) ∷ e ∷ es) ((e.0, v) ∷ es) (e ∷ put R k v es)) ≡ cond (p k) 1 0 + count_by (λ e. p e.0) (e ∷ es)) [
          | Less ↦ λ _. sum_by-cons (λ (e : K × X). cond (p e.0) 1 0) (k, v) (e ∷ es)
          | Equal ↦ λ taken. absurd (true≢false taken)
          | Greater ↦ λ free.
              let one = sum_by-cons (λ (e : K × X). cond (p e.0) 1 0) e in
              let rest = count-put p k v es free in
              omega (arith, one (put R k v es), one es, rest)
        ] free

    -- a filter keeps what is found where it passes
    pub filter-none : (p : K × X → Bool) (q : K) (es : List (K × X)) → find R q es ≡ None → find R q (filter p es) ≡ None
    filter-none p q [] none = refl
    filter-none p q (e ∷ es) none =
        elim (eq_by_cmp R q e.0) as (λ b. eq_by_cmp R q e.0 ≡ b → cond b (Some e.1) (find R q es) ≡ None → find R q (cond (p e) (e ∷ filter p es) (filter p es)) ≡ None) [
          | true ↦ λ _ is. cc
          | false ↦ λ apart rest.
              elim (p e) as (λ b. find R q (cond b (e ∷ filter p es) (filter p es)) ≡ None) [
                | true ↦ ap (λ b. cond b (Some e.1) (find R q (filter p es))) apart ∙ filter-none p q es rest
                | false ↦ filter-none p q es rest
              ]
        ] refl none

    pub filter-some : ((x y : K) → R x y ≡ Equal → x ≡ y) → (p : K × X → Bool) (q : K) (v : X) (es : List (K × X)) → Rises R (λ e. e.0) es
        → find R q es ≡ Some v → find R q (filter p es) ≡ cond (p (q, v)) (Some v) None
    filter-some same p q v [] h is = cc
    filter-some same p q v (e ∷ es) h is =
        elim (eq_by_cmp R q e.0) as (λ b. eq_by_cmp R q e.0 ≡ b → cond b (Some e.1) (find R q es) ≡ Some v
        → find R q (cond (p e) (e ∷ filter p es) (filter p es)) ≡ cond (p (q, v)) (Some v) None) [
          | true ↦ λ tied is.
              let value : e.1 ≡ v = cc in
              let key : e.0 ≡ q = sym (same q e.0 ((Equal-is (R q e.0)).0 tied)) in
              let own : p e ≡ p (q, v) = λ i. p (key i, value i) in
              elim (p e) as (λ b. b ≡ p (q, v) → find R q (cond b (e ∷ filter p es) (filter p es)) ≡ cond (p (q, v)) (Some v) None) [
                | true ↦ λ passes. ap (λ b. cond b (Some e.1) (find R q (filter p es))) tied ∙ ap Some value ∙ ap (λ b. cond b (Some v) None) passes
                | false ↦ λ fails. filter-none p q es (none-above q e.0 es tied h.0) ∙ ap (λ b. cond b (Some v) None) fails
              ] own
          | false ↦ λ apart rest.
              elim (p e) as (λ b. find R q (cond b (e ∷ filter p es) (filter p es)) ≡ cond (p (q, v)) (Some v) None) [
                | true ↦ ap (λ b. cond b (Some e.1) (find R q (filter p es))) apart ∙ filter-some same p q v es h.1 rest
                | false ↦ filter-some same p q v es h.1 rest
              ]
        ] refl is

  module _ (same : (x y : K) → R x y ≡ Equal → x ≡ y) where
    -- what is found is among the entries
    pub any-found : (p : K → Bool) (q : K) (v : X) (es : List (K × X)) → find R q es ≡ Some v → p q ≡ true → list_any (λ e. p e.0) es ≡ true
    any-found p q v [] is holds = cc
    any-found p q v (e ∷ es) is holds =
        elim (eq_by_cmp R q e.0) as (λ b. eq_by_cmp R q e.0 ≡ b → cond b (Some e.1) (find R q es) ≡ Some v → (p e.0 || list_any (λ e. p e.0) es) ≡ true) [
          | true ↦ λ tied _. ap (λ k. p k || list_any (λ e. p e.0) es) (sym (same q e.0 ((Equal-is (R q e.0)).0 tied))) ∙ ap (λ b. b || list_any (λ e. p e.0) es) holds
          | false ↦ λ _ rest. ap (λ b. p e.0 || b) (any-found p q v es rest holds) ∙ or-true (p e.0)
        ] refl is
