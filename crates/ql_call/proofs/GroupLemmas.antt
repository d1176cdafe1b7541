-- Things put to groups by a key: what stands at a key, and which keys are there.
use Rattle.std.proofs.Common.{◌≡◌, Bool, true, false, cond, ◌||◌, T, List, [], ◌∷◌, ◌++◌, Some, filter, fold, is_some, unwrap_or, refl, sym, ap, ◌∙◌, append-nil, append_assoc}
use Rattle.std.proofs.Math.Bool.{or-false, or-true, or_assoc}
use Rattle.std.proofs.lemmas.List.Elements.{filter-append}
use Rattle.std.specs.declared.cmp.Ordering.{Ordering}
use Rattle.std.specs.Cmp.{IsTotalOrder, Equal-is}
use Rattle.std.specs.FinMap.Entries.{find, put, is_sorted, find-put, find_tied, is_sorted-put}
use Rattle.std.specs.List.{list_any}
use Rattle.std.specs.Ordering.{eq_by_cmp}
use Rattle.op_base.specs.Labels.{Texts, labels_cmp, labels_ties}
use Rattle.srv_store.proofs.OrderLemmas.{labels_total}
use Rattle.ql_call.specs.Elements.{Element}
use Rattle.ql_call.specs.Groups.{GroupsByKey}
use Rattle.srv_store.proofs.RisingLemmas.{test_is}

module _ {K X : Type 0} (R : K → K → Ordering) (o : IsTotalOrder R) (key : X → K) where
  -- what stands at a key
  abbrev at : List (K × List X) → K → List X
  at groups k = unwrap_or (find R k groups) []

  -- one thing more
  abbrev add : List (K × List X) → X → List (K × List X)
  add groups x = put R (key x) (at groups (key x) ++ x ∷ []) groups

  abbrev is_at : K → X → Bool
  is_at k x = eq_by_cmp R k (key x)

  at-add : (k : K) (groups : List (K × List X)) (x : X) → at (add groups x) k ≡ at groups k ++ filter (is_at k) (x ∷ [])
  at-add k groups x =
      ap (λ found. unwrap_or found []) (find-put R o k (key x) (at groups (key x) ++ x ∷ []) groups)
      ∙ elim (is_at k x) as (λ b. is_at k x ≡ b
      → unwrap_or (cond b (Some (at groups (key x) ++ x ∷ [])) (find R k groups)) [] ≡ at groups k ++ cond b (x ∷ []) []) [
        | true ↦ λ tied. ap (λ found. unwrap_or found [] ++ x ∷ []) (find_tied R o k (key x) ((Equal-is (R k (key x))).0 tied) groups)
        | false ↦ λ _. sym (append-nil (at groups k))
      ] refl

  pub at-all : (k : K) (groups : List (K × List X)) (xs : List X) → at (fold add groups xs) k ≡ at groups k ++ filter (is_at k) xs
  at-all k groups [] = sym (append-nil (at groups k))
  at-all k groups (x ∷ xs) =
      at-all k (add groups x) xs
      ∙ ap (λ l. l ++ filter (is_at k) xs) (at-add k groups x)
      ∙ append_assoc (at groups k) (filter (is_at k) (x ∷ [])) (filter (is_at k) xs)
      ∙ ap (λ l. at groups k ++ l) (sym (filter-append (is_at k) (x ∷ []) xs))

  has-add : (k : K) (groups : List (K × List X)) (x : X) → is_some (find R k (add groups x)) ≡ (is_some (find R k groups) || is_at k x)
  has-add k groups x =
      ap is_some (find-put R o k (key x) (at groups (key x) ++ x ∷ []) groups)
      ∙ elim (is_at k x) as (λ b. is_some (cond b (Some (at groups (key x) ++ x ∷ [])) (find R k groups)) ≡ (is_some (find R k groups) || b)) [
        | true ↦ sym (or-true (is_some (find R k groups)))
        | false ↦ sym (or-false (is_some (find R k groups)))
      ]

  pub has-all : (k : K) (groups : List (K × List X)) (xs : List X) → is_some (find R k (fold add groups xs)) ≡ (is_some (find R k groups) || list_any (is_at k) xs)
  has-all k groups [] = sym (or-false (is_some (find R k groups)))
  has-all k groups (x ∷ xs) =
      has-all k (add groups x) xs
      ∙ ap (λ b. b || list_any (is_at k) xs) (has-add k groups x)
      ∙ or_assoc (is_some (find R k groups)) (is_at k x) (list_any (is_at k) xs)

  pub sorted-all : (groups : List (K × List X)) (xs : List X) → T (is_sorted R groups) → T (is_sorted R (fold add groups xs))
  sorted-all groups [] h = h
  sorted-all groups (x ∷ xs) h = sorted-all (add groups x) xs (is_sorted-put R o (key x) (at groups (key x) ++ x ∷ []) groups h)

-- elements stand in groups by their keys
pub groups-by-key : GroupsByKey
groups-by-key key_of elements =
    let key : Element → Texts = λ e. key_of e.0 in
    record {
      ordered = test_is _ (sorted-all labels_cmp labels_total key [] elements tt);
      keys = λ k. has-all labels_cmp labels_total key k [] elements ∙ (λ i. list_any (λ (e : Element). sym (labels_ties k (key_of e.0)) i) elements);
      members = λ k. at-all labels_cmp labels_total key k [] elements ∙ (λ i. filter (λ (e : Element). sym (labels_ties k (key_of e.0)) i) elements);
    }
