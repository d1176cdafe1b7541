-- What `topk` and `bottomk` keep of all groups is a filter over the elements.
use Rattle.std.proofs.Common.{◌≡◌, ℕ, ℤ, pos, negsuc, Bool, true, false, cond, ◌&&◌, ◌||◌, List, [], ◌∷◌, Option, Some, None, filter, is_some, ltb, unwrap_or, refl, sym, ap, subst, ◌∙◌, arith}
use mathlib.Core.Bool.{true≢false}
use Rattle.std.proofs.Math.Bool.{or-false}
use Rattle.std.proofs.lemmas.Bool.{le-ltb}
use Rattle.std.specs.Prelude.{int_lt}
use Rattle.std.specs.Cmp.{Equal-is, tied_itself}
use Rattle.std.specs.FinMap.Entries.{find, find-where_key, same_entries}
use Rattle.std.specs.List.{AllByRecursion, flat_map}
use Rattle.std.specs.Ordering.{eq_by_cmp, is_eq}
use Rattle.op_base.specs.Labels.{Texts, labels_cmp, labels_ties}
use Rattle.srv_store.specs.LabelMaps.{LabelMap}
use Rattle.srv_store.specs.Stores.{same_labels}
use Rattle.srv_store.proofs.OrderLemmas.{labels_same, labels_total}
use Rattle.srv_store.proofs.RisingLemmas.{Rises, entries-rise, is_test, rises-entries, rises-filter, sorted-put_all}
use Rattle.ql_tree.specs.declared.tree.Grouping.{Grouping}
use Rattle.ql_call.specs.Aggregates.{group_key, groups_of}
use Rattle.ql_call.specs.Best.{BestAreKept, is_best, place_of}
use Rattle.ql_call.specs.Elements.{Element}
use Rattle.ql_call.specs.Groups.{is_keyed_by}
use Rattle.ql_call.specs.Ordered.{in_label_order}
use Rattle.ql_call.specs.Ranked.{best_of, count_of, first_ranked}
use Rattle.ql_call.specs.declared.outcome.Outcome.TheVariants.{Vector}
use Rattle.ql_call.proofs.BestLemmas.{IsOf, all-kept, has-kept}
use Rattle.ql_call.proofs.FoundLemmas.{all-append, all-filter, all-so, any-found, filter-none, filter-some, found-itself, found-put_all, has, has-append, none-above, same_labels-itself}
use Rattle.ql_call.proofs.GroupLemmas.{groups-by-key}

-- fewer than a number that may be below 0
fewer : (c : ℕ) (k : ℤ) → ltb c (count_of k) ≡ int_lt (pos c) k
fewer c (pos n) = refl
fewer c (negsuc n) = le-ltb c 0 (omega arith)

-- what follows from a rule for the first of two equal ones
either_none : (b : Bool) (found : Option ℤ) → found ≡ None → cond b found None ≡ None
either_none true found none = none
either_none false found none = refl

module _ (top : Bool) (g : Option Grouping) (k : ℤ) (elements : List Element) (ordered : in_label_order elements ≡ true) where
  -- the key of a group, its members, and what is kept of them
  abbrev key_of : Texts → Texts
  key_of = group_key g

  abbrev members : Texts → List Element
  members key = filter (is_keyed_by key_of key) elements

  abbrev kept : Texts × List Element → List Element
  kept group = first_ranked top k group.1

  abbrev groups : LabelMap (List Element)
  groups = groups_of g elements

  rising : Rises labels_cmp (λ (e : Element). e.0) elements
  rising = rises-entries labels_cmp elements (is_test ordered)

  -- an element of the group of a key
  abbrev IsMember : Texts → Element → Type 0
  IsMember key e = IsOf top elements e × (is_keyed_by key_of key e ≡ true)

  all-members : (key : Texts) → AllByRecursion (IsMember key) (members key)
  all-members key = all-filter (IsOf top elements) (is_keyed_by key_of key) elements (found-itself labels_cmp labels_total elements rising)

  abbrev HasMembers : Texts × List Element → Type 0
  HasMembers group = group.1 ≡ members group.0

  rising-groups : Rises labels_cmp (λ (group : Texts × List Element). group.0) groups
  rising-groups = rises-entries labels_cmp groups (is_test (groups-by-key key_of elements).ordered)

  -- each group has its members
  all-groups : AllByRecursion HasMembers groups
  all-groups = all-so (λ group. find labels_cmp group.0 groups ≡ Some group.1) HasMembers
      (λ group found. ap (λ o. unwrap_or o []) (sym found) ∙ (groups-by-key key_of elements).members group.0)
      groups (found-itself labels_cmp labels_total groups rising-groups)

  all-pairs : (gs : LabelMap (List Element)) → AllByRecursion HasMembers gs → AllByRecursion (IsOf top elements) (flat_map kept gs)
  all-pairs [] h = tt
  all-pairs (group ∷ gs) h =
      all-append (IsOf top elements) (kept group) (flat_map kept gs)
      (subst (λ ms. AllByRecursion (IsOf top elements) (first_ranked top k ms)) (sym h.0)
      (all-so (IsMember group.0) (IsOf top elements) (λ e is. is.0) (first_ranked top k (members group.0))
      (all-kept top elements (IsMember group.0) k (members group.0) (all-members group.0))))
      (all-pairs gs h.1)

  module _ (q : Texts) where
    -- labels of another key aren't among the elements of a key
    apart-from : (key : Texts) → eq_by_cmp labels_cmp (key_of q) key ≡ false → (es : List Element) → AllByRecursion (IsMember key) es → find labels_cmp q es ≡ None
    apart-from key apart [] h = refl
    apart-from key apart (e ∷ es) h =
        elim (eq_by_cmp labels_cmp q e.0) as (λ b. eq_by_cmp labels_cmp q e.0 ≡ b → cond b (Some e.1) (find labels_cmp q es) ≡ None) [
          | true ↦ λ tied.
              let own : q ≡ e.0 = labels_same q e.0 ((Equal-is (labels_cmp q e.0)).0 tied) in
              let same : same_labels key (key_of q) ≡ true = ap (λ l. same_labels key (key_of l)) own ∙ h.0.1 in
              let keys : key ≡ key_of q = labels_same key (key_of q) ((Equal-is (labels_cmp key (key_of q))).0 (sym (labels_ties key (key_of q)) ∙ same)) in
              absurd (true≢false (sym (ap is_eq (tied_itself labels_total (key_of q))) ∙ ap (eq_by_cmp labels_cmp (key_of q)) (sym keys) ∙ apart))
          | false ↦ λ _. apart-from key apart es h.1
        ] refl

    -- so they are kept where they are kept of their own group
    has-pairs : (gs : LabelMap (List Element)) → Rises labels_cmp (λ (group : Texts × List Element). group.0) gs → AllByRecursion HasMembers gs
        → has labels_cmp q (flat_map kept gs) ≡ (has labels_cmp (key_of q) gs && has labels_cmp q (first_ranked top k (members (key_of q))))
    has-pairs [] rise h = refl
    has-pairs (group ∷ gs) rise h =
        has-append labels_cmp q (kept group) (flat_map kept gs)
        ∙ ap (λ b. has labels_cmp q (kept group) || b) (has-pairs gs rise.1 h.1)
        ∙ ap (λ ms. has labels_cmp q (first_ranked top k ms) || (has labels_cmp (key_of q) gs && own)) h.0
        ∙ elim (eq_by_cmp labels_cmp (key_of q) group.0) as (λ b. eq_by_cmp labels_cmp (key_of q) group.0 ≡ b
        → (has labels_cmp q (first_ranked top k (members group.0)) || (has labels_cmp (key_of q) gs && own)) ≡ (is_some (cond b (Some group.1) (find labels_cmp (key_of q) gs)) && own)) [
          | true ↦ λ tied.
              let same : key_of q ≡ group.0 = labels_same (key_of q) group.0 ((Equal-is (labels_cmp (key_of q) group.0)).0 tied) in
              ap (λ key. has labels_cmp q (first_ranked top k (members key)) || (has labels_cmp (key_of q) gs && own)) (sym same)
              ∙ ap (λ found. own || (is_some found && own)) (none-above labels_cmp labels_total (key_of q) group.0 gs tied rise.0)
              ∙ or-false own
          | false ↦ λ apart.
              ap (λ found. is_some found || (has labels_cmp (key_of q) gs && own))
              (apart-from group.0 apart (first_ranked top k (members group.0))
              (all-kept top elements (IsMember group.0) k (members group.0) (all-members group.0)))
        ] refl
      where
        own : Bool
        own = has labels_cmp q (first_ranked top k (members (key_of q)))

    abbrev found-kept : Option ℤ
    found-kept = find labels_cmp q (best_of top k groups)

    -- the pairs have the value that the elements have
    found-best : found-kept ≡ cond (has labels_cmp q (flat_map kept groups)) (find labels_cmp q elements) None
    found-best = found-put_all labels_cmp labels_total q (find labels_cmp q elements) (flat_map kept groups) []
        (all-so (IsOf top elements) (λ (e : Element). eq_by_cmp labels_cmp q e.0 ≡ true → Some e.1 ≡ find labels_cmp q elements)
        (λ e is tied. sym is ∙ ap (λ l. find labels_cmp l elements) (sym (labels_same q e.0 ((Equal-is (labels_cmp q e.0)).0 tied))))
        (flat_map kept groups) (all-pairs groups all-groups))

    -- an element is among those of its own group
    among-own : find labels_cmp q (members (key_of q)) ≡ find labels_cmp q elements
    among-own =
        find-where_key labels_cmp (λ labels. same_labels (key_of q) (key_of labels)) q
        (λ x tied. ap (λ labels. same_labels (key_of q) (key_of labels)) (sym (labels_same q x tied))) elements
        ∙ ap (λ b. cond b (find labels_cmp q elements) None) (same_labels-itself (key_of q))

    has-best : (value : ℤ) → find labels_cmp q elements ≡ Some value
        → has labels_cmp q (flat_map kept groups) ≡ is_best top g k elements (q, value)
    has-best value there =
        has-pairs groups rising-groups all-groups
        ∙ ap (λ b. b && has labels_cmp q (first_ranked top k (members (key_of q))))
        ((groups-by-key key_of elements).keys (key_of q)
        ∙ any-found labels_cmp labels_same (λ labels. same_labels (key_of q) (key_of labels)) q value elements there (same_labels-itself (key_of q)))
        ∙ has-kept top elements q value there k (members (key_of q)) (rises-filter labels_cmp (λ (e : Element). e.0) (is_keyed_by key_of (key_of q)) elements rising)
        (all-so (IsMember (key_of q)) (IsOf top elements) (λ e is. is.0) (members (key_of q)) (all-members (key_of q)))
        (ap is_some (among-own ∙ there))
        ∙ fewer (place_of top g elements (q, value)) k

    same-found : (found : Option ℤ) → find labels_cmp q elements ≡ found → found-kept ≡ find labels_cmp q (filter (is_best top g k elements) elements)
    same-found None none =
        found-best ∙ either_none (has labels_cmp q (flat_map kept groups)) (find labels_cmp q elements) none ∙ sym (filter-none labels_cmp labels_total (is_best top g k elements) q elements none)
    same-found (Some value) there =
        found-best ∙ ap (λ found. cond (has labels_cmp q (flat_map kept groups)) found None) there ∙ ap (λ b. cond b (Some value) None) (has-best value there)
        ∙ sym (filter-some labels_cmp labels_total labels_same (is_best top g k elements) q value elements rising there)

  pub best-kept : best_of top k groups ≡ filter (is_best top g k elements) elements
  best-kept = same_entries labels_cmp labels_total labels_same _ _
      (sorted-put_all labels_cmp labels_total (flat_map kept groups) [] tt)
      (entries-rise labels_cmp (filter (is_best top g k elements) elements) (rises-filter labels_cmp (λ (e : Element). e.0) (is_best top g k elements) elements rising))
      (λ q. same-found q (find labels_cmp q elements) refl)

pub best-are-kept : BestAreKept
best-are-kept = record {
  top = λ g label k elements ordered. ap Vector (best-kept true g k elements ordered);
  bottom = λ g label k elements ordered. ap Vector (best-kept false g k elements ordered);
}
