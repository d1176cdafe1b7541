-- The newest entries of a window are those that no other of their labels exceeds in moment, without stale ones.
use Rattle.std.proofs.Common.{◌≡◌, ℕ, zero, suc, ◌<◌, ℤ, Bool, true, false, not, ◌&&◌, ◌||◌, ◌⊎◌, inl, inr, List, [], ◌∷◌, ◌++◌, length, cond, filter, get_or, fold, Option, Some, None, is_some, if◌then◌else◌, int_le, int_lt, refl, ap, sym, subst, ◌∙◌, arith, ⊎_elim}
use mathlib.Core.Bool.{true≢false}
use Rattle.std.specs.Cmp.{first_so, second_so, tied_itself}
use Rattle.std.specs.FinMap.Entries.{is_sorted}
use Rattle.std.specs.List.{AllByRecursion, Contains, IsDistinct, flat_map, list_all}
use Rattle.std.specs.Ordering.{is_eq, eq_by_cmp}
use Rattle.std.proofs.lemmas.Int.{ints}
use Rattle.std.proofs.lemmas.Option.{same_Some}
use Rattle.op_base.specs.declared.matcher.Matcher.{Matcher}
use Rattle.op_base.specs.Labels.{Texts, labels_cmp, labels_ties}
use Rattle.srv_store.specs.declared.entry.Entry.{Entry}
use Rattle.srv_store.specs.LabelMaps.{LabelMap, value_of}
use Rattle.srv_store.specs.Stores.{Store, same_labels, is_twin, window, is_newer, latest, has_value, found_entry, newest}
use Rattle.srv_store.specs.StoreLaws.{IsTwinless, NewestAreLatest, is_latest_of}
use Rattle.srv_store.proofs.OrderLemmas.{labels_same, labels_total}
use Rattle.srv_store.proofs.PlaceLemmas.{both_so, find_under, is_tied, true_of}
use Rattle.srv_store.proofs.LatestLemmas.{newer_at, find_latest}
use Rattle.srv_store.proofs.RisingEntries.{AreFound, IsPlaced, found-latest, labels_of, newest-rises}
use Rattle.srv_store.proofs.TwinLemmas.{strictly, twin_back, twinless-filter}

-- ---- an entry is one of a list
abbrev In : Entry → List Entry → Type 0
In e [] = ⊥
In e (x ∷ xs) = (x ≡ e) ⊎ In e xs

in_at : (e : Entry) (xs : List Entry) (k : ℕ) → k < length xs → get_or xs k e ≡ e → In e xs
in_at e [] k within is = absurd (omega arith)
in_at e (x ∷ xs) zero within is = inl is
in_at e (x ∷ xs) (suc k) within is = inr (in_at e xs k (omega arith) is)

contained : (e : Entry) (xs : List Entry) → In e xs → Contains xs e
contained e [] none = absurd none
contained e (x ∷ xs) (inl is) = (0, omega arith, is)
contained e (x ∷ xs) (inr more) = let rest = contained e xs more in (suc rest.0, omega (arith, rest.1), rest.2)

filter_in : (p : Entry → Bool) (e : Entry) (xs : List Entry) → In e (filter p xs) → In e xs × (p e ≡ true)
filter_in p e [] none = absurd none
filter_in p e (x ∷ xs) is = elim (p x) as (λ b. p x ≡ b → In e (cond b (x ∷ filter p xs) (filter p xs)) → ((x ≡ e) ⊎ In e xs) × (p e ≡ true)) [
  | true ↦ λ holds. ⊎_elim (λ here. (inl here, ap p (sym here) ∙ holds)) (λ more. let rest = filter_in p e xs more in (inr rest.0, rest.1))
  | false ↦ λ _ more. let rest = filter_in p e xs more in (inr rest.0, rest.1)
] refl is

in_filter : (p : Entry → Bool) (e : Entry) (xs : List Entry) → p e ≡ true → In e xs → In e (filter p xs)
in_filter p e [] holds none = absurd none
in_filter p e (x ∷ xs) holds is = elim (p x) as (λ b. p x ≡ b → (x ≡ e) ⊎ In e xs → In e (cond b (x ∷ filter p xs) (filter p xs))) [
  | true ↦ λ _. ⊎_elim (λ here. inl here) (λ more. inr (in_filter p e xs holds more))
  | false ↦ λ fails. ⊎_elim (λ here. absurd (true≢false (sym holds ∙ ap p (sym here) ∙ fails))) (λ more. in_filter p e xs holds more)
] refl is

in_right : (e : Entry) (xs ys : List Entry) → In e ys → In e (xs ++ ys)
in_right e [] ys is = is
in_right e (x ∷ xs) ys is = inr (in_right e xs ys is)

all_in : (p : Entry → Bool) (xs : List Entry) → ((x : Entry) → In x xs → p x ≡ true) → list_all p xs ≡ true
all_in p [] each = refl
all_in p (x ∷ xs) each = both_so _ _ (each x (inl refl)) (all_in p xs (λ y is. each y (inr is)))

in_all : (p : Entry → Bool) (xs : List Entry) (x : Entry) → list_all p xs ≡ true → In x xs → p x ≡ true
in_all p [] x all none = absurd none
in_all p (y ∷ xs) x all (inl is) = ap p (sym is) ∙ first_so _ _ all
in_all p (y ∷ xs) x all (inr more) = in_all p xs x (second_so _ _ all) more

holds_in : (P : Entry → Type 0) (xs : List Entry) (x : Entry) → AllByRecursion P xs → In x xs → P x
holds_in P [] x all none = absurd none
holds_in P (y ∷ xs) x all (inl is) = subst P is all.0
holds_in P (y ∷ xs) x all (inr more) = holds_in P xs x all.1 more

-- twins of a list are one entry
one_twin : (xs : List Entry) (e f : Entry) → IsDistinct is_twin xs → In e xs → In f xs → is_twin e f ≡ true → e ≡ f
unfolding IsDistinct
one_twin [] e f distinct none _ twins = absurd none
one_twin (x ∷ xs) e f distinct (inl here) (inl too) twins = sym here ∙ too
one_twin (x ∷ xs) e f distinct (inl here) (inr more) twins =
    absurd (true≢false (sym twins ∙ ap (λ e. is_twin e f) (sym here) ∙ holds_in (λ y. is_twin x y ≡ false) xs f distinct.0 more))
one_twin (x ∷ xs) e f distinct (inr more) (inl here) twins =
    absurd (true≢false (sym twins ∙ twin_back f e (ap (λ f. is_twin f e) (sym here) ∙ holds_in (λ y. is_twin x y ≡ false) xs e distinct.0 more)))
one_twin (x ∷ xs) e f distinct (inr more) (inr too) twins = one_twin xs e f distinct.1 more too twins

-- ---- what stands at a label set after all entries
-- it is no earlier than an entry
abbrev Above : Option Entry → Entry → Type 0
Above None x = ⊥
Above (Some e) x = int_le x.at.0 e.at.0 ≡ true

le_itself : (x : ℤ) → int_le x x ≡ true
le_itself x = grind (arith, ints)

le_less : (x y z : ℤ) → int_le x y ≡ true → int_lt y z ≡ true → int_le x z ≡ true
le_less x y z below less = grind (arith, ints)

le_not : (y z : ℤ) → int_lt y z ≡ false → int_le z y ≡ true
le_not y z isnt = grind (arith, ints)

module _ (L : Texts) where
  above_step : (found : Option Entry) (w x : Entry) → Above found x → Above (newer_at L found w) x
  above_step None w x above = absurd above
  above_step (Some f) w x above = elim (eq_by_cmp labels_cmp L w.labels) as (λ b. Above (if b then (if int_lt f.at.0 w.at.0 then Some w else Some f) else Some f) x) [
    | true ↦ (elim (int_lt f.at.0 w.at.0) as (λ b. int_lt f.at.0 w.at.0 ≡ b → Above (if b then Some w else Some f) x) [
      | true ↦ λ less. le_less x.at.0 f.at.0 w.at.0 above less
      | false ↦ λ _. above
    ] refl)
    | false ↦ above
  ]

  above_all : (found : Option Entry) (xs : List Entry) (x : Entry) → Above found x → Above (fold (newer_at L) found xs) x
  above_all found [] x above = above
  above_all found (w ∷ xs) x above = above_all (newer_at L found w) xs x (above_step found w x above)

  above_itself : (found : Option Entry) (w : Entry) → eq_by_cmp labels_cmp L w.labels ≡ true → Above (newer_at L found w) w
  above_itself None w tie = subst (λ b. Above (if b then Some w else None) w) (sym tie) (le_itself w.at.0)
  above_itself (Some f) w tie = subst (λ b. Above (if b then (if int_lt f.at.0 w.at.0 then Some w else Some f) else Some f) w) (sym tie)
      (elim (int_lt f.at.0 w.at.0) as (λ b. int_lt f.at.0 w.at.0 ≡ b → Above (if b then Some w else Some f) w) [
        | true ↦ λ _. le_itself w.at.0
        | false ↦ λ isnt. le_not f.at.0 w.at.0 isnt
      ] refl)

  above_each : (found : Option Entry) (xs : List Entry) (x : Entry) → eq_by_cmp labels_cmp L x.labels ≡ true → In x xs → Above (fold (newer_at L) found xs) x
  above_each found [] x tie none = absurd none
  above_each found (w ∷ xs) x tie (inl is) =
      above_all (newer_at L found w) xs x (subst (λ (x : Entry). Above (newer_at L found w) x) is (above_itself found w (ap (λ (x : Entry). eq_by_cmp labels_cmp L x.labels) is ∙ tie)))
  above_each found (w ∷ xs) x tie (inr more) = above_each (newer_at L found w) xs x tie more

  -- it is one of the entries of these labels
  comes_from : (found : Option Entry) (xs : List Entry) (e : Entry) → fold (newer_at L) found xs ≡ Some e → (found ≡ Some e) ⊎ (In e xs × (eq_by_cmp labels_cmp L e.labels ≡ true))
  comes_from found [] e is = inl is
  comes_from found (w ∷ xs) e is = ⊎_elim
      (λ here. elim (eq_by_cmp labels_cmp L w.labels) as (λ b. eq_by_cmp labels_cmp L w.labels ≡ b → (if b then (if is_newer found w then Some w else found) else found) ≡ Some e
      → (found ≡ Some e) ⊎ (((w ≡ e) ⊎ In e xs) × (eq_by_cmp labels_cmp L e.labels ≡ true))) [
        | true ↦ λ tie. elim (is_newer found w) as (λ b. (if b then Some w else found) ≡ Some e → (found ≡ Some e) ⊎ (((w ≡ e) ⊎ In e xs) × (eq_by_cmp labels_cmp L e.labels ≡ true))) [
          | true ↦ λ same. let one : w ≡ e = same_Some w e same in inr (inl one, ap (λ (x : Entry). eq_by_cmp labels_cmp L x.labels) (sym one) ∙ tie)
          | false ↦ λ same. inl same
        ]
        | false ↦ λ _ same. inl same
      ] refl here)
      (λ more. inr (inr more.0, more.1))
      (comes_from (newer_at L found w) xs e is)

-- ---- what is made of the entries that were found
flat_in : (M : LabelMap Entry) (e : Entry) → is_sorted labels_cmp M ≡ true → AllByRecursion IsPlaced M → In e (flat_map found_entry M) → (value_of M e.labels ≡ Some e) × (has_value e ≡ true)
flat_in [] e sorted placed none = absurd none
flat_in (m ∷ M) e sorted placed is = elim (has_value m.1) as (λ b. has_value m.1 ≡ b → In e ((if b then m.1 ∷ [] else []) ++ flat_map found_entry M) → (value_of (m ∷ M) e.labels ≡ Some e) × (has_value e ≡ true)) [
  | true ↦ λ holds. ⊎_elim
      (λ (here : m.1 ≡ e).
      let at : e.labels ≡ m.0 = ap labels_of (sym here) ∙ placed.0 in
      (ap (λ k. cond (eq_by_cmp labels_cmp k m.0) (Some m.1) (value_of M k)) at ∙ ap (λ r. cond (is_eq r) (Some m.1) (value_of M m.0)) (tied_itself labels_total m.0) ∙ ap (λ e. Some e) here, ap has_value (sym here) ∙ holds))
      (λ more. further (flat_in M e (second_so _ _ sorted) placed.1 more))
  | false ↦ λ _ more. further (flat_in M e (second_so _ _ sorted) placed.1 more)
] refl is
  where
    further : (value_of M e.labels ≡ Some e) × (has_value e ≡ true) → (value_of (m ∷ M) e.labels ≡ Some e) × (has_value e ≡ true)
    further rest = (
      elim (eq_by_cmp labels_cmp e.labels m.0) as (λ b. eq_by_cmp labels_cmp e.labels m.0 ≡ b → cond b (Some m.1) (value_of M e.labels) ≡ Some e) [
        | true ↦ λ tie. absurd (true≢false (ap is_some (sym rest.0 ∙ ap (value_of M) (labels_same e.labels m.0 (is_tied _ tie)) ∙ find_under labels_cmp labels_total m.0 M (first_so _ _ sorted))))
        | false ↦ λ _. rest.0
      ] refl,
      rest.1,
    )

in_flat : (M : LabelMap Entry) (L : Texts) (e : Entry) → value_of M L ≡ Some e → has_value e ≡ true → In e (flat_map found_entry M)
in_flat [] L e is holds = absurd (true≢false (sym (ap is_some is)))
in_flat (m ∷ M) L e is holds = elim (eq_by_cmp labels_cmp L m.0) as (λ b. cond b (Some m.1) (value_of M L) ≡ Some e → In e (found_entry m ++ flat_map found_entry M)) [
  | true ↦ λ same. let one : m.1 ≡ e = same_Some m.1 e same in
      subst (λ b. In e ((if b then m.1 ∷ [] else []) ++ flat_map found_entry M)) (sym (ap has_value one ∙ holds)) (inl one)
  | false ↦ λ same. in_right e (found_entry m) (flat_map found_entry M) (in_flat M L e same holds)
] is

module _ (store : Store) (matchers : List Matcher) (from to : ℤ) where
  abbrev W : List Entry
  W = window store matchers from to

  abbrev is_answer : Entry → Bool
  is_answer e = has_value e && is_latest_of W e

  no_later : (e other : Entry) → Above (Some e) other ⊎ (same_labels e.labels other.labels ≡ false) → (not (same_labels e.labels other.labels) || int_le other.at.0 e.at.0) ≡ true
  no_later e other (inr apart) = ap (λ b. not b || int_le other.at.0 e.at.0) apart
  no_later e other (inl above) = ap (λ b. not (same_labels e.labels other.labels) || b) above ∙ or_true (not (same_labels e.labels other.labels))
    where
      or_true : (b : Bool) → (b || true) ≡ true
      or_true true = refl
      or_true false = refl

  is_the_latest : (e : Entry) → In e (newest store matchers from to) → In e (filter is_answer W)
  is_the_latest e is =
      let h : AreFound (latest W) = found-latest W [] (record { sorted = tt; placed = tt }) in
      let told = flat_in (latest W) e (true_of _ h.sorted) h.placed is in
      let stands : fold (newer_at e.labels) None W ≡ Some e = sym (find_latest e.labels [] W) ∙ told.0 in
      let here : In e W = ⊎_elim (λ (none : None ≡ Some e). absurd (true≢false (sym (ap is_some none)))) (λ own. own.0) (comes_from e.labels None W e stands) in
      in_filter is_answer e W (both_so _ _ told.1 (all_in _ W (λ other among. no_later e other
      (elim (same_labels e.labels other.labels) as (λ b. same_labels e.labels other.labels ≡ b → Above (Some e) other ⊎ (b ≡ false)) [
        | true ↦ λ same. inl (subst (λ o. Above o other) stands (above_each e.labels None W other (sym (labels_ties e.labels other.labels) ∙ same) among))
        | false ↦ λ _. inr refl
      ] refl)))) here

  stands_for : (e : Entry) (r : Option Entry) → fold (newer_at e.labels) None W ≡ r → IsTwinless store → In e W → is_latest_of W e ≡ true → Above r e → r ≡ Some e
  stands_for e None is distinct here greatest above = absurd above
  stands_for e (Some f) is distinct here greatest above =
      let own = ⊎_elim (λ (none : None ≡ Some f). absurd (true≢false (sym (ap is_some none)))) (λ (own : In f W × (eq_by_cmp labels_cmp e.labels f.labels ≡ true)). own) (comes_from e.labels None W f is) in
      let same : same_labels e.labels f.labels ≡ true = labels_ties e.labels f.labels ∙ own.1 in
      let below : int_le f.at.0 e.at.0 ≡ true = sym (ap (λ b. not b || int_le f.at.0 e.at.0) same) ∙ in_all (λ other. not (same_labels e.labels other.labels) || int_le other.at.0 e.at.0) W f greatest own.0 in
      ap (λ e. Some e) (sym (one_twin W e f (twinless-filter _ store distinct) here own.0 (both_so _ _ (both_so _ _ above below) same)))

  is_one_of_the_newest : (e : Entry) → IsTwinless store → In e (filter is_answer W) → In e (newest store matchers from to)
  is_one_of_the_newest e distinct is =
      let told = filter_in is_answer e W is in
      let above : Above (fold (newer_at e.labels) None W) e = above_each e.labels None W e (ap is_eq (tied_itself labels_total e.labels)) told.0 in
      in_flat (latest W) e.labels e (find_latest e.labels [] W ∙ stands_for e (fold (newer_at e.labels) None W) refl distinct told.0 (second_so _ _ told.1) above) (first_so _ _ told.1)

pub newest-are-latest : NewestAreLatest
newest-are-latest = record {
  rises = λ store matchers from to. strictly labels_cmp labels_of (newest store matchers from to) (newest-rises store matchers from to);
  latest = λ store matchers from to distinct e. (
    λ there. contained e _ (is_the_latest store matchers from to e (in_at e (newest store matchers from to) there.0 there.1 there.2)),
    λ there. contained e _ (is_one_of_the_newest store matchers from to e distinct (in_at e _ there.0 there.1 there.2)),
  );
}
