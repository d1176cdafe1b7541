-- Lists of entries: order, values that aren't empty, and the place of a name.
use Rattle.std.proofs.Common.{◌≡◌, ℕ, zero, suc, ◌<◌, ◌≤◌, Bool, true, false, not, ◌&&◌, ◌==◌, T, List, [], ◌∷◌, length, cond, set, Some, None, Result, Ok, Err, OnOk, OnErr, refl, ap, sym, subst, ◌∙◌, arith}
use Rattle.std.specs.Prelude.{slice_get, slice_index_or, option_and_then}
use mathlib.Core.Bool.{true≢false}
use Rattle.std.specs.declared.cmp.Ordering.{Ordering}
use Rattle.std.specs.declared.cmp.Ordering.TheVariants.{Less, Equal, Greater}
use Rattle.std.specs.List.{AllByRecursion, AllWithin, insert, remove}
use Rattle.std.specs.List.Sorted.{IsStrictlySortedBy, IsPartitionedBy}
use Rattle.std.specs.Bool.{Decides}
use Rattle.std.specs.Cmp.{first_so, second_so}
use Rattle.std.specs.Ordering.{nat_cmp, is_lt, is_eq, is_gt, eq_by_cmp, ordering_reverse}
use Rattle.std.specs.Cmp.Lexicographic.{slice_cmp, pointwise, nat_list_cmp_total, pointwise_decides, bytes_decides, texts_ties}
use Rattle.std.specs.FinMap.Entries.{by_order, put, where_key, below_all, is_sorted, is_sorted-put, is_sorted-where_key}
use Rattle.op_base.specs.Maps.{Map, IsMap, value_at, with_entry, without_entry, keys_of}
use Rattle.op_base.specs.Labels.{Texts, IsLabels, labels_with, entry_eq}
use Rattle.op_base.specs.Entries.{place_in, stands_at, value_if}

abbrev by_bytes : List ℕ → List ℕ → Ordering
by_bytes = slice_cmp nat_cmp

less : (o : Ordering) → T (is_lt o) → o ≡ Less
less Less p = refl
less Equal p = absurd p
less Greater p = absurd p

both : (a b : Bool) → T a → T b → T (a && b)
both true b p q = q
both false b p q = p

first : (a b : Bool) → T (a && b) → T a
first true b p = tt
first false b p = p

second : (a b : Bool) → T (a && b) → T b
second true b p = p
second false b p = absurd p

-- keys of which neither stands before the other are the same
same_key : (these those : List ℕ) → by_bytes these those ≡ Equal → these ≡ those
same_key these those is = (bytes_decides these those).0 (texts_ties these those ∙ ap is_eq is)

module _ {X : Type 0} where
  test_below : (key : List ℕ) (es : Map X) → AllByRecursion (λ y. by_bytes key y ≡ Less) (keys_of es) → T (below_all by_bytes key es)
  test_below key [] h = tt
  test_below key (e ∷ es) h = both _ _ (subst (λ o. T (is_lt o)) (sym h.0) tt) (test_below key es h.1)

  below_test : (key : List ℕ) (es : Map X) → T (below_all by_bytes key es) → AllByRecursion (λ y. by_bytes key y ≡ Less) (keys_of es)
  below_test key [] h = tt
  below_test key (e ∷ es) h = (less _ (first _ _ h), below_test key es (second _ _ h))

  -- the test of order that the library's maps take, from the order, and the order from it
  pub test_of_map : (es : Map X) → IsMap es → T (is_sorted by_bytes es)
  unfolding IsStrictlySortedBy
  test_of_map [] h = tt
  test_of_map (e ∷ es) h = both _ _ (test_below e.0 es h.0) (test_of_map es h.1)

  pub map_of_test : (es : Map X) → T (is_sorted by_bytes es) → IsMap es
  unfolding IsStrictlySortedBy
  map_of_test [] h = tt
  map_of_test (e ∷ es) h = (below_test e.0 es (first _ _ h), map_of_test es (second _ _ h))

  pub map-with_entry : (es : Map X) (key : List ℕ) (value : X) → IsMap es → IsMap (with_entry es key value)
  map-with_entry es key value h = map_of_test _ (is_sorted-put by_bytes nat_list_cmp_total key value es (test_of_map es h))

  pub map-without_entry : (es : Map X) (key : List ℕ) → IsMap es → IsMap (without_entry es key)
  map-without_entry es key h = map_of_test _ (is_sorted-where_key by_bytes (λ other. not (eq_by_cmp by_bytes key other)) es (test_of_map es h))

  -- the place of a name is within the list or at its end
  pub place-le : (es : Map X) (key : List ℕ) → place_in es key ≤ length es
  place-le [] key = omega arith
  place-le (e ∷ es) key =
      let rest = place-le es key in
      elim (is_gt (by_bytes key e.0)) as (λ b. cond b (suc (place_in es key)) 0 ≤ suc (length es)) [ true ↦ omega (arith, rest) | false ↦ omega arith ]

  -- the entry at the place of its name is written over
  put-here : (es : Map X) (key : List ℕ) (value : X) → stands_at es (place_in es key) key ≡ true
      → with_entry es key value ≡ set es (place_in es key) (key, value)
  put-here [] key value found = absurd (true≢false (sym found))
  put-here (e ∷ es) key value found =
      elim (by_bytes key e.0) as (λ o. by_bytes key e.0 ≡ o → stands_at (e ∷ es) (cond (is_gt o) (suc (place_in es key)) 0) key ≡ true
      → by_order o ((key, value) ∷ e ∷ es) ((e.0, value) ∷ es) (e ∷ put by_bytes key value es) ≡ set (e ∷ es) (cond (is_gt o) (suc (place_in es key)) 0) (key, value)) [
        | Less ↦ λ is f. absurd (true≢false (sym f ∙ ap is_eq is))
        | Equal ↦ λ is f. ap (λ (name : List ℕ). (name, value) ∷ es) (sym (same_key key e.0 is))
        | Greater ↦ λ is f. ap (λ l. e ∷ l) (put-here es key value f)
      ] refl found

  -- else a new one is put there
  put-before : (es : Map X) (key : List ℕ) (value : X) → stands_at es (place_in es key) key ≡ false → with_entry es key value ≡ insert es (place_in es key) (key, value)
  put-before [] key value free = refl
  put-before (e ∷ es) key value free =
      elim (by_bytes key e.0) as (λ o. by_bytes key e.0 ≡ o → stands_at (e ∷ es) (cond (is_gt o) (suc (place_in es key)) 0) key ≡ false
      → by_order o ((key, value) ∷ e ∷ es) ((e.0, value) ∷ es) (e ∷ put by_bytes key value es) ≡ insert (e ∷ es) (cond (is_gt o) (suc (place_in es key)) 0) (key, value)) [
        | Less ↦ λ is f. refl
        | Equal ↦ λ is f. absurd (true≢false (sym (ap is_eq is) ∙ f))
        | Greater ↦ λ is f. ap (λ l. e ∷ l) (put-before es key value f)
      ] refl free

  pub put-found : (es : Map X) (key : List ℕ) (value : X) (place : ℕ) → place ≡ place_in es key → stands_at es place key ≡ true
      → set es place (key, value) ≡ with_entry es key value
  put-found es key value place at found = let found_at = rw at at found in rw at (sym (put-here es key value found_at))

  pub put-free : (es : Map X) (key : List ℕ) (value : X) (place : ℕ) → place ≡ place_in es key → stands_at es place key ≡ false
      → insert es place (key, value) ≡ with_entry es key value
  put-free es key value place at free = let free_at = rw at at free in rw at (sym (put-before es key value free_at))

greater : (o : Ordering) → is_gt o ≡ true → o ≡ Greater
greater Less is = absurd (true≢false (sym is))
greater Equal is = absurd (true≢false (sym is))
greater Greater is = refl

-- a key that is above another one is above all that are below that
above : (x y key : List ℕ) → by_bytes x y ≡ Less → is_gt (by_bytes key y) ≡ true → is_gt (by_bytes key x) ≡ true
above x y key low is =
    let back : by_bytes y key ≡ Less = nat_list_cmp_total.antisymm y key ∙ ap ordering_reverse (greater _ is) in
    ap is_gt (nat_list_cmp_total.antisymm key x ∙ ap ordering_reverse (nat_list_cmp_total.trans x y key low back))

-- where the entries stand in order, a search by halves finds what a walk finds
module _ {X : Type 0} where
  -- the key is above the entry's
  abbrev pub is_below : List ℕ → List ℕ × X → Bool
  is_below key e = is_gt (by_bytes key e.0)

  above_first : (x key : List ℕ) (es : Map X) (j : ℕ) (d : List ℕ × X) → T (below_all by_bytes x es) → j < length es
      → is_below key (slice_index_or es j d) ≡ true → is_gt (by_bytes key x) ≡ true
  above_first x key [] j d low lt is = absurd (omega (arith, lt))
  above_first x key (e ∷ es) zero d low lt is = above x e.0 key (less _ (first _ _ low)) is
  above_first x key (e ∷ es) (suc j) d low lt is = above_first x key es j d (second _ _ low) (omega (arith, lt)) is

  parted_from : (key : List ℕ) (es : Map X) → T (is_sorted by_bytes es) → IsPartitionedBy (is_below key) es
  parted_from key [] h i j d le lt is = absurd (omega (arith, lt))
  parted_from key (e ∷ es) h zero zero d le lt is = is
  parted_from key (e ∷ es) h zero (suc j) d le lt is = above_first e.0 key es j d (first _ _ h) (omega (arith, lt)) is
  parted_from key (e ∷ es) h (suc i) zero d le lt is = absurd (omega (arith, le))
  parted_from key (e ∷ es) h (suc i) (suc j) d le lt is = parted_from key es (second _ _ h) i j d (omega (arith, le)) (omega (arith, lt)) is

  pub parted : (key : List ℕ) (es : Map X) → IsMap es → IsPartitionedBy (is_below key) es
  parted key es h = parted_from key es (test_of_map es h)

  -- the place that halves leave is that of the key
  pub place_at : (es : Map X) (key : List ℕ) (i : ℕ) → AllWithin (λ e. is_below key e ≡ true) es 0 i
      → AllWithin (λ e. is_below key e ≡ false) es i (length es) → i ≤ length es → i ≡ place_in es key
  place_at [] key zero before behind le = refl
  place_at [] key (suc i) before behind le = absurd (omega (arith, le))
  place_at (e ∷ es) key zero before behind le =
      sym (ap (λ b. cond b (suc (place_in es key)) 0) (behind 0 e (omega arith) (omega arith)))
  place_at (e ∷ es) key (suc i) before behind le =
      ap (λ n. suc n) (place_at es key i (λ k d low high. before (suc k) d (omega arith) (omega (arith, high)))
      (λ k d low high. behind (suc k) d (omega (arith, low)) (omega (arith, high))) (omega (arith, le)))
      ∙ sym (ap (λ b. cond b (suc (place_in es key)) 0) (before 0 e (omega arith) (omega arith)))

  lower : (x y : List ℕ) (es : Map X) → by_bytes x y ≡ Less → T (below_all by_bytes y es) → T (below_all by_bytes x es)
  lower x y [] low h = tt
  lower x y (e ∷ es) low h =
      both _ _ (subst (λ o. T (is_lt o)) (sym (nat_list_cmp_total.trans x y e.0 low (less _ (first _ _ h)))) tt)
      (lower x y es low (second _ _ h))

  absent : (key : List ℕ) (es : Map X) → T (below_all by_bytes key es) → value_at es key ≡ None
  absent key [] h = refl
  absent key (e ∷ es) h = ap (λ o. cond (is_eq o) (Some e.1) (value_at es key)) (less _ (first _ _ h)) ∙ absent key es (second _ _ h)

  kept_all : (key : List ℕ) (es : Map X) → T (below_all by_bytes key es) → without_entry es key ≡ es
  kept_all key [] h = refl
  kept_all key (e ∷ es) h =
      ap (λ o. cond (not (is_eq o)) (e ∷ without_entry es key) (without_entry es key)) (less _ (first _ _ h))
      ∙ ap (λ l. e ∷ l) (kept_all key es (second _ _ h))

  found_from : (es : Map X) (key : List ℕ) → T (is_sorted by_bytes es)
      → value_at es key ≡ option_and_then (value_if key) (slice_get es (place_in es key))
  found_from [] key h = refl
  found_from (e ∷ es) key h =
      elim (by_bytes key e.0) as (λ o. by_bytes key e.0 ≡ o → cond (is_eq o) (Some e.1) (value_at es key)
      ≡ option_and_then (value_if key) (slice_get (e ∷ es) (cond (is_gt o) (suc (place_in es key)) 0))) [
        | Less ↦ λ is. absent key es (lower key e.0 es is (first _ _ h)) ∙ sym (ap (λ o. cond (is_eq o) (Some e.1) None) is)
        | Equal ↦ λ is. sym (ap (λ o. cond (is_eq o) (Some e.1) None) is)
        | Greater ↦ λ is. found_from es key (second _ _ h)
      ] refl

  -- the value at a key is that of the entry at its place, where that has the key
  pub found_at : (es : Map X) (key : List ℕ) → IsMap es → value_at es key ≡ option_and_then (value_if key) (slice_get es (place_in es key))
  found_at es key h = found_from es key (test_of_map es h)

  removed_from : (es : Map X) (key : List ℕ) → T (is_sorted by_bytes es) → stands_at es (place_in es key) key ≡ true
      → remove es (place_in es key) ≡ without_entry es key
  removed_from [] key h found = absurd (true≢false (sym found))
  removed_from (e ∷ es) key h found =
      elim (by_bytes key e.0) as (λ o. by_bytes key e.0 ≡ o → stands_at (e ∷ es) (cond (is_gt o) (suc (place_in es key)) 0) key ≡ true
      → remove (e ∷ es) (cond (is_gt o) (suc (place_in es key)) 0)
      ≡ cond (not (is_eq o)) (e ∷ without_entry es key) (without_entry es key)) [
        | Less ↦ λ is f. absurd (true≢false (sym f ∙ ap is_eq is))
        | Equal ↦ λ is f. sym (kept_all key es (below_equal key e.0 es is (first _ _ h)))
        | Greater ↦ λ is f. ap (λ l. e ∷ l) (removed_from es key (second _ _ h) f)
      ] refl found
    where
      below_equal : (x y : List ℕ) (es : Map X) → by_bytes x y ≡ Equal → T (below_all by_bytes y es) → T (below_all by_bytes x es)
      below_equal x y [] same h = tt
      below_equal x y (e ∷ es) same h =
          both _ _ (subst (λ o. T (is_lt o)) (sym (nat_list_cmp_total.congr x y e.0 same)) (first _ _ h)) (below_equal x y es same (second _ _ h))

  unmoved_from : (es : Map X) (key : List ℕ) → T (is_sorted by_bytes es) → stands_at es (place_in es key) key ≡ false
      → es ≡ without_entry es key
  unmoved_from [] key h free = refl
  unmoved_from (e ∷ es) key h free =
      elim (by_bytes key e.0) as (λ o. by_bytes key e.0 ≡ o → stands_at (e ∷ es) (cond (is_gt o) (suc (place_in es key)) 0) key ≡ false
      → e ∷ es ≡ cond (not (is_eq o)) (e ∷ without_entry es key) (without_entry es key)) [
        | Less ↦ λ is f. ap (λ l. e ∷ l) (sym (kept_all key es (lower key e.0 es is (first _ _ h))))
        | Equal ↦ λ is f. absurd (true≢false (sym (ap is_eq is) ∙ f))
        | Greater ↦ λ is f. ap (λ l. e ∷ l) (unmoved_from es key (second _ _ h) f)
      ] refl free

  -- without the entry at the place of its key, and as it was where that hasn't the key
  pub removed_at : (es : Map X) (key : List ℕ) (place : ℕ) → IsMap es → place ≡ place_in es key → stands_at es place key ≡ true
      → remove es place ≡ without_entry es key
  removed_at es key place h at found = let found_at = rw at at found in rw at (removed_from es key (test_of_map es h) found_at)

  pub unmoved_at : (es : Map X) (key : List ℕ) (place : ℕ) → IsMap es → place ≡ place_in es key → stands_at es place key ≡ false
      → es ≡ without_entry es key
  unmoved_at es key place h at free = let free_at = rw at at free in unmoved_from es key (test_of_map es h) free_at

-- no entry becomes empty
module _ (P : List ℕ × List ℕ → Type 0) where
  all-with_entry : (es : Texts) (key value : List ℕ) → ((other : List ℕ) → P (other, value)) → AllByRecursion P es → AllByRecursion P (with_entry es key value)
  all-with_entry [] key value new h = (new key, tt)
  all-with_entry (e ∷ es) key value new h =
      elim (by_bytes key e.0) as (λ o. AllByRecursion P (by_order o ((key, value) ∷ e ∷ es) ((e.0, value) ∷ es) (e ∷ put by_bytes key value es))) [
        | Less ↦ (new key, h)
        | Equal ↦ (new e.0, h.1)
        | Greater ↦ (h.0, all-with_entry es key value new h.1)
      ]

  all-where_key : (es : Texts) (keep : List ℕ → Bool) → AllByRecursion P es → AllByRecursion P (where_key by_bytes keep es)
  all-where_key [] keep h = tt
  all-where_key (e ∷ es) keep h =
      elim (keep e.0) as (λ b. AllByRecursion P (cond b (e ∷ where_key by_bytes keep es) (where_key by_bytes keep es))) [
        | true ↦ (h.0, all-where_key es keep h.1)
        | false ↦ all-where_key es keep h.1
      ]

pub map-empty : (es : Texts) → es ≡ [] → IsMap es
unfolding IsStrictlySortedBy
map-empty es none = subst IsMap (sym none) tt

pub labels-empty : (es : Texts) → es ≡ [] → IsLabels es
labels-empty es none = (map-empty es none, subst (AllByRecursion (λ (entry : List ℕ × List ℕ). 0 < length entry.1)) (sym none) tt)

pub labels-without_entry : (es new : Texts) (name : List ℕ) → IsLabels es → new ≡ without_entry es name → IsLabels new
labels-without_entry es new name h is = subst IsLabels (sym is) (map-without_entry es name h.0, all-where_key _ es _ h.1)

pub labels-with_entry : (es new : Texts) (name value : List ℕ) → IsLabels es → 0 < length value → new ≡ with_entry es name value → IsLabels new
labels-with_entry es new name value h some is = subst IsLabels (sym is) (map-with_entry es name value h.0, all-with_entry _ es name value (λ other. some) h.1)

-- a value that isn't empty is put
pub labels_with-some : (es : Texts) (name value : List ℕ) → 0 < length value → with_entry es name value ≡ labels_with es name value
labels_with-some es name [] some = absurd (omega arith)
labels_with-some es name (b ∷ value) some = refl

-- an empty one removes the name
pub labels_with-none : (es : Texts) (name value : List ℕ) → value ≡ [] → without_entry es name ≡ labels_with es name value
labels_with-none es name value none = rw none refl

-- a call that fails leaves its old state, so what both states keep holds afterwards
pub either_way : {V E A B P : Type 0} (r : Result V E) → OnOk r A → OnErr r B → (A → P) → (B → P) → P
either_way (Ok v) a b f g = f a
either_way (Err e) a b f g = g b

pub map-put : {V E : Type 0} (r : Result V E) (es new : Texts) (name value : List ℕ) → OnOk r (new ≡ with_entry es name value) → OnErr r (new ≡ es) → IsMap es → IsMap new
map-put r es new name value ok err h =
    either_way r ok err (λ is. subst IsMap (sym is) (map-with_entry es name value h)) (λ same. subst IsMap (sym same) h)

-- a text that isn't empty has a first byte
pub some_byte : (value text : List ℕ) → false ≡ (length text == 0) → value ≡ text → 0 < length value
some_byte value text some is = rw is (by_length text some)
  where
    by_length : (text : List ℕ) → false ≡ (length text == 0) → 0 < length text
    by_length [] some = absurd (true≢false (sym some))
    by_length (b ∷ text) some = omega arith

pub labels-put : {V E : Type 0} (r : Result V E) (es new : Texts) (name value : List ℕ) → OnOk r (new ≡ with_entry es name value) → OnErr r (new ≡ es)
    → 0 < length value → IsLabels es → IsLabels new
labels-put r es new name value ok err some h =
    either_way r ok err (labels-with_entry es new name value h some) (λ same. subst IsLabels (sym same) h)

-- the test of equality of label sets and tags decides equality
entries_decide : (this that : List ℕ × List ℕ) → Decides (entry_eq this that) (this ≡ that)
entries_decide this that = (
  λ same. let names = (bytes_decides this.0 that.0).0 (first_so _ _ same) in let values = (bytes_decides this.1 that.1).0 (second_so _ _ same) in λ i. (names i, values i),
  λ is. subst (λ (other : List ℕ × List ℕ). entry_eq this other ≡ true) is (λ i. (bytes_decides this.0 this.0).1 refl i && (bytes_decides this.1 this.1).1 refl i),
)

pub texts_decide : (these those : Texts) → Decides (pointwise entry_eq these those) (these ≡ those)
texts_decide = pointwise_decides entries_decide
