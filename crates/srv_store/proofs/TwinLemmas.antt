-- No two entries of a store are of the same labels and moment, and those of a window are only put in order.
use Rattle.std.proofs.Common.{◌≡◌, ℕ, zero, suc, ℤ, Bool, true, false, ◌&&◌, ◌||◌, List, [], ◌∷◌, ◌++◌, cond, filter, map, Some, None, is_some, refl, ap, sym, subst, ◌∙◌, append-nil, ⊎_elim, if◌then◌else◌, Result, Ok, Err, OnOk, OnErr}
use mathlib.Core.Bool.{true≢false}
use Rattle.std.specs.declared.cmp.Ordering.{Ordering}
use Rattle.std.specs.declared.cmp.Ordering.TheVariants.{Less, Equal, Greater}
use Rattle.std.specs.Cmp.{tied_itself}
use Rattle.std.specs.FinMap.Entries.{by_order, find, put, find-put}
use Rattle.std.specs.List.{AllByRecursion, IsDistinct}
use Rattle.std.specs.List.Sorted.{IsPermutation, IsStrictlySortedBy}
use Rattle.std.specs.Ordering.{is_eq, eq_by_cmp, ordering_then}
use Rattle.std.proofs.lemmas.Bool.{cases_Bool}
use Rattle.std.proofs.lemmas.List.Sorted.{IsPermutation-refl, IsPermutation-sym, IsPermutation-cons, IsPermutation-trans, IsPermutation-append_left, IsPermutation-map, IsPermutation-middle}
use Rattle.op_base.specs.declared.matcher.Matcher.{Matcher}
use Rattle.op_base.specs.Labels.{Texts, labels_cmp, labels_ties}
use Rattle.op_base.specs.Maps.{put_all, in_order}
use Rattle.srv_store.specs.declared.entry.Entry.{Entry}
use Rattle.srv_store.specs.Stores.{Store, Place, place_cmp, at_place, entry_at, is_twin, has_twin, with_one, window, selected}
use Rattle.srv_store.specs.StoreLaws.{IsTwinless, RisesByPlace, SelectedAreTheWindow, place_of}
use Rattle.srv_store.specs.declared.addition.Addition.{Addition}
use Rattle.srv_store.specs.Indexes.{Index, IsIndex}
use Rattle.srv_store.specs.Runs.{Run, IsKept, entries_of, moment_cmp, run_at}
use Rattle.srv_store.proofs.PlaceLemmas.{is_tied, test_of}
use Rattle.srv_store.proofs.KeptLemmas.{moment_tie}
use Rattle.srv_store.proofs.RisingLemmas.{Below, Rises, all-put, rises-along, rises-entries, rises-map}
use Rattle.srv_store.proofs.SelectedLemmas.{places_total, same_places, sorted_put_all, unplaced}

-- ---- twins stand at one place
twin_is : (this that : Entry) → is_twin this that ≡ eq_by_cmp place_cmp (place_of this) (place_of that)
twin_is this that =
    (λ i. moment_tie this.at that.at i && labels_ties this.labels that.labels i)
    ∙ swapped (labels_cmp this.labels that.labels) (moment_cmp this.at that.at)
  where
    and_true : (b : Bool) → (b && true) ≡ b
    and_true true = refl
    and_true false = refl

    and_false : (b : Bool) → (b && false) ≡ false
    and_false true = refl
    and_false false = refl

    swapped : (o p : Ordering) → (is_eq p && is_eq o) ≡ is_eq (ordering_then o p)
    swapped Less p = and_false (is_eq p)
    swapped Equal p = and_true (is_eq p)
    swapped Greater p = and_false (is_eq p)

tie_back : (p q : Place) → eq_by_cmp place_cmp p q ≡ false → eq_by_cmp place_cmp q p ≡ false
tie_back p q apart = ⊎_elim
    (λ (tie : eq_by_cmp place_cmp q p ≡ true). absurd (true≢false (sym (ap is_eq (tied_itself places_total q)) ∙ ap (λ r. eq_by_cmp place_cmp r q) (same_places q p (is_tied _ tie)) ∙ apart)))
    (λ (isnt : eq_by_cmp place_cmp q p ≡ false). isnt) (cases_Bool (eq_by_cmp place_cmp q p))

pub twin_back : (this that : Entry) → is_twin this that ≡ false → is_twin that this ≡ false
twin_back this that apart = twin_is that this ∙ tie_back (place_of this) (place_of that) (sym (twin_is this that) ∙ apart)

-- ---- a store without twins
neither : (a b : Bool) → (a || b) ≡ false → (a ≡ false) × (b ≡ false)
neither true b none = absurd (true≢false none)
neither false b none = (refl, none)

apart_push : (e : Entry) (store : Store) (entry : Entry) → AllByRecursion (λ other. is_twin e other ≡ false) store → is_twin e entry ≡ false → AllByRecursion (λ other. is_twin e other ≡ false) (store ++ entry ∷ [])
apart_push e [] entry all last = (last, tt)
apart_push e (other ∷ store) entry all last = (all.0, apart_push e store entry all.1 last)

pub twinless-push : (store : Store) (entry : Entry) → IsDistinct is_twin store → has_twin store entry ≡ false → IsDistinct is_twin (store ++ entry ∷ [])
unfolding IsDistinct
twinless-push [] entry distinct none = (tt, tt)
twinless-push (e ∷ store) entry distinct none =
    let free = neither (is_twin entry e) (has_twin store entry) none in
    (apart_push e store entry distinct.0 (twin_back entry e free.0), twinless-push store entry distinct.1 free.1)

apart_filter : (p : Entry → Bool) (e : Entry) (store : Store) → AllByRecursion (λ other. is_twin e other ≡ false) store → AllByRecursion (λ other. is_twin e other ≡ false) (filter p store)
apart_filter p e [] all = tt
apart_filter p e (other ∷ store) all = elim (p other) as (λ b. AllByRecursion (λ other. is_twin e other ≡ false) (cond b (other ∷ filter p store) (filter p store))) [
  | true ↦ (all.0, apart_filter p e store all.1)
  | false ↦ apart_filter p e store all.1
]

pub twinless-filter : (p : Entry → Bool) (store : Store) → IsDistinct is_twin store → IsDistinct is_twin (filter p store)
unfolding IsDistinct
twinless-filter p [] distinct = tt
twinless-filter p (e ∷ store) distinct = elim (p e) as (λ b. IsDistinct is_twin (cond b (e ∷ filter p store) (filter p store))) [
  | true ↦ (apart_filter p e store distinct.0, twinless-filter p store distinct.1)
  | false ↦ twinless-filter p store distinct.1
]

pub twinless-with_one : (store : Store) (entry : Entry) → IsTwinless store → IsTwinless (with_one store entry)
twinless-with_one store entry distinct = elim (has_twin store entry) as (λ b. has_twin store entry ≡ b → IsTwinless (if b then store else store ++ entry ∷ [])) [
  | true ↦ λ _. distinct
  | false ↦ λ none. twinless-push store entry distinct none
] refl

-- a store stays so, whether an entry is taken or refused
pub taken_twinless : {V E : Type 0} (r : Result V E) (old new : Store) (entry : Entry) → IsTwinless old → OnOk r (new ≡ with_one old entry) → OnErr r (new ≡ old) → IsTwinless new
taken_twinless (Ok v) old new entry distinct is stays = subst IsTwinless (sym is) (twinless-with_one old entry distinct)
taken_twinless (Err e) old new entry distinct is stays = subst IsTwinless (sym stays) distinct

-- ---- the empty store
twinless_start : IsTwinless []
unfolding IsDistinct
twinless_start = tt

none_at : (n : ℕ) → run_at [] n ≡ []
none_at zero = refl
none_at (suc n) = refl

pub start_kept : (keys : List Texts) (runs : List Run) (index : Index) (log : List Addition) → keys ≡ [] → runs ≡ [] → index ≡ [] → log ≡ []
    → IsKept keys runs log × IsIndex keys index × IsTwinless (entries_of keys log)
start_kept keys runs index log no_keys no_runs no_index no_log =
    subst (λ (p : List Texts × List Run × Index × List Addition). IsKept p.0 p.1 p.3 × IsIndex p.0 p.2 × IsTwinless (entries_of p.0 p.3))
    (λ i. (sym no_keys i, sym no_runs i, sym no_index i, sym no_log i))
    (record { as_many = refl; below = tt; first = none_at; last = none_at }, (λ name value some. refl), twinless_start)

-- ---- entries that are put in order
put_new : {K X : Type 0} (R : K → K → Ordering) (key : K) (value : X) (es : List (K × X)) → find R key es ≡ None → IsPermutation ((key, value) ∷ es) (put R key value es)
put_new R key value [] none = IsPermutation-refl _
put_new R key value (e ∷ es) none = elim (R key e.0) as (λ r. R key e.0 ≡ r → cond (is_eq r) (Some e.1) (find R key es) ≡ None
    → IsPermutation ((key, value) ∷ e ∷ es) (by_order r ((key, value) ∷ e ∷ es) ((e.0, value) ∷ es) (e ∷ put R key value es))) [
      | Less ↦ λ _ _. IsPermutation-refl _
      | Equal ↦ λ _ some. absurd (true≢false (ap is_some some))
      | Greater ↦ λ _ none. IsPermutation-trans ((key, value) ∷ e ∷ es) (e ∷ (key, value) ∷ es) (e ∷ put R key value es)
          (IsPermutation-sym (e ∷ (key, value) ∷ es) ((key, value) ∷ e ∷ es) (IsPermutation-middle (e ∷ []) (key, value) es))
          (IsPermutation-cons e ((key, value) ∷ es) (put R key value es) (put_new R key value es none))
    ] refl none

-- no entry's place is among those that were put
abbrev AreNew : List (Place × Entry) → List Entry → Type 0
AreNew es entries = AllByRecursion (λ entry. find place_cmp (place_of entry) es ≡ None) entries

new_put : (es : List (Place × Entry)) (e : Entry) (entries : List Entry) → AllByRecursion (λ other. is_twin e other ≡ false) entries → AreNew es entries → AreNew (put place_cmp (place_of e) e es) entries
new_put es e [] apart new = tt
new_put es e (other ∷ entries) apart new = (
  find-put place_cmp places_total (place_of other) (place_of e) e es
      ∙ ap (λ b. cond b (Some e) (find place_cmp (place_of other) es)) (tie_back (place_of e) (place_of other) (sym (twin_is e other) ∙ apart.0))
      ∙ new.0,
  new_put es e entries apart.1 new.1,
)

put_all_new : (es : List (Place × Entry)) (entries : List Entry) → IsDistinct is_twin entries → AreNew es entries → IsPermutation (es ++ map at_place entries) (put_all place_cmp es (map at_place entries))
unfolding IsDistinct
put_all_new es [] distinct new = subst (λ l. IsPermutation l es) (sym (append-nil es)) (IsPermutation-refl es)
put_all_new es (e ∷ entries) distinct new =
    let rest = map at_place entries in
    let more = put place_cmp (place_of e) e es in
    IsPermutation-trans (es ++ at_place e ∷ rest) (at_place e ∷ (es ++ rest)) (put_all place_cmp more rest)
    (IsPermutation-middle es (at_place e) rest)
    (IsPermutation-trans (at_place e ∷ (es ++ rest)) (more ++ rest) (put_all place_cmp more rest)
    (IsPermutation-append_left rest (at_place e ∷ es) more (put_new place_cmp (place_of e) e es new.0))
    (put_all_new more entries distinct.1 (new_put es e entries distinct.0 new.1)))

all_new : (entries : List Entry) → AreNew [] entries
all_new [] = tt
all_new (e ∷ entries) = (refl, all_new entries)

permuted : (store : Store) (matchers : List Matcher) (from to : ℤ) → IsTwinless store → IsPermutation (window store matchers from to) (selected store matchers from to)
permuted store matchers from to distinct =
    let W = window store matchers from to in
    subst (λ l. IsPermutation l (selected store matchers from to)) (unplaced W)
    (IsPermutation-map entry_at (map at_place W) (in_order place_cmp (map at_place W)) (put_all_new [] W (twinless-filter _ store distinct) (all_new W)))

-- ---- entries in order
-- an entry is put at its place
abbrev IsPlaced : Place × Entry → Type 0
IsPlaced placed = place_of placed.1 ≡ placed.0

placed_all : (es : List (Place × Entry)) (entries : List Entry) → AllByRecursion IsPlaced es → AllByRecursion IsPlaced (put_all place_cmp es (map at_place entries))
placed_all es [] all = all
placed_all es (e ∷ entries) all =
    placed_all (put place_cmp (place_of e) e es) entries (all-put place_cmp IsPlaced (place_of e) e es refl (λ other tied. same_places (place_of e) other tied) all)

pub strictly : {K X : Type 0} (R : K → K → Ordering) (key : X → K) (xs : List X) → Rises R key xs → IsStrictlySortedBy R (map key xs)
unfolding IsStrictlySortedBy
strictly R key [] h = tt
strictly R key (x ∷ xs) h = (below xs h.0, strictly R key xs h.1)
  where
    below : (ys : List _) → Below R key (key x) ys → AllByRecursion (λ k. R (key x) k ≡ Less) (map key ys)
    below [] h = tt
    below (y ∷ ys) h = (h.0, below ys h.1)

rising : (store : Store) (matchers : List Matcher) (from to : ℤ) → RisesByPlace (selected store matchers from to)
rising store matchers from to =
    let W = window store matchers from to in
    let placed = in_order place_cmp (map at_place W) in
    strictly place_cmp place_of (map entry_at placed)
    (rises-map place_cmp (λ (p : Place × Entry). place_of p.1) place_of entry_at (λ p. refl) placed
    (rises-along place_cmp (λ (p : Place × Entry). p.0) (λ p. place_of p.1) placed (placed_all [] W tt) (rises-entries place_cmp placed (test_of (sorted_put_all [] W refl)))))

pub selected-are-the-window : SelectedAreTheWindow
selected-are-the-window = record { rises = rising; permutes = permuted }
