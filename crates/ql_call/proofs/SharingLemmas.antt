-- `and`, `unless` and `or` by the keys that two vectors share.
use Rattle.std.proofs.Common.{◌≡◌, ℤ, Bool, true, false, cond, not, List, [], ◌∷◌, ◌++◌, Option, Some, None, filter, refl, sym, ap, subst, ◌∙◌}
use Rattle.std.proofs.lemmas.List.Sums.{fold-append}
use Rattle.std.specs.declared.cmp.Ordering.{Ordering}
use Rattle.std.specs.Cmp.{IsTotalOrder}
use Rattle.std.specs.FinMap.Entries.{find, put, find-put, find-where_key}
use Rattle.std.specs.Option.{option_or}
use Rattle.std.specs.Ordering.{eq_by_cmp}
use Rattle.op_base.specs.Labels.{Texts, labels_cmp}
use Rattle.srv_store.specs.Stores.{same_labels}
use Rattle.op_base.specs.Maps.{put_all}
use Rattle.srv_store.proofs.OrderLemmas.{labels_same, labels_total}
use Rattle.ql_tree.specs.declared.tree.Matching.{Matching}
use Rattle.ql_call.specs.Elements.{Element}
use Rattle.ql_call.specs.Matched.{key_of}
use Rattle.ql_call.specs.Ordered.{in_label_order}
use Rattle.ql_call.specs.Sets.{has_key}
use Rattle.ql_call.specs.Sharing.{shares_key, shares_none, IsUnion, SetsByKey}
use Rattle.ql_call.specs.declared.outcome.Outcome.TheVariants.{Vector}
use Rattle.ql_call.proofs.FoundLemmas.{any-found, none-above, same_labels-itself}
use Rattle.ql_call.proofs.GroupLemmas.{groups-by-key}
use Rattle.srv_store.proofs.RisingLemmas.{Rises, rises-entries, rises-filter, sorted-put_all, test_is, is_test}

option_or-none : {X : Type 0} (a : Option X) → option_or a None ≡ a
option_or-none None = refl
option_or-none (Some x) = refl

module _ {K X : Type 0} (R : K → K → Ordering) (o : IsTotalOrder R) where
  -- at a key stands what the pairs have there, or else what stood there
  pub find-put_all : (q : K) (pairs entries : List (K × X)) → Rises R (λ e. e.0) pairs
      → find R q (put_all R entries pairs) ≡ option_or (find R q pairs) (find R q entries)
  find-put_all q [] entries h = refl
  find-put_all q (pair ∷ pairs) entries h =
      find-put_all q pairs (put R pair.0 pair.1 entries) h.1
      ∙ ap (option_or (find R q pairs)) (find-put R o q pair.0 pair.1 entries)
      ∙ elim (eq_by_cmp R q pair.0) as (λ b. eq_by_cmp R q pair.0 ≡ b
      → option_or (find R q pairs) (cond b (Some pair.1) (find R q entries)) ≡ option_or (cond b (Some pair.1) (find R q pairs)) (find R q entries)) [
        | true ↦ λ tied. ap (λ found. option_or found (Some pair.1)) (none-above R o q pair.0 pairs tied h.0)
        | false ↦ λ _. refl
      ] refl

-- the test of `and` and `unless` by a key is whether it is shared
has-shares : (m : Option Matching) (others : List Element) → has_key m others ≡ shares_key m others
has-shares m others = λ i (e : Element). (groups-by-key (key_of m) others).keys (key_of m e.0) i

-- labels that a vector has share their key with one of its elements
shares-found : (m : Option Matching) (q : Texts) (value : ℤ) (es : List Element) → find labels_cmp q es ≡ Some value → shares_key m es (q, value) ≡ true
shares-found m q value es is =
    any-found labels_cmp labels_same (λ labels. same_labels (key_of m q) (key_of m labels)) q value es is (same_labels-itself (key_of m q))

module _ (m : Option Matching) (left right : List Element) (lefts : in_label_order left ≡ true) (rights : in_label_order right ≡ true) where
  -- the right elements whose key no left one has
  abbrev others : List Element
  others = filter (shares_none m left) right

  -- of them none has labels that the left vector has
  none-other : (q : Texts) (value : ℤ) → find labels_cmp q left ≡ Some value → find labels_cmp q others ≡ None
  none-other q value there =
      find-where_key labels_cmp (λ k. not (shares_key m left (k, value))) q (λ x tied. ap (λ k. not (shares_key m left (k, value))) (sym (labels_same q x tied))) right
      ∙ ap (λ b. cond (not b) (find labels_cmp q right) None) (shares-found m q value left there)

  -- so the order in which the two were put doesn't matter
  swapped : (q : Texts) (found : Option ℤ) → find labels_cmp q left ≡ found
      → option_or (find labels_cmp q others) (option_or found None) ≡ option_or found (find labels_cmp q others)
  swapped q None there = option_or-none (find labels_cmp q others)
  swapped q (Some value) there = ap (λ other. option_or other (Some value)) (none-other q value there)

  pub is-union : IsUnion left others (put_all labels_cmp [] (left ++ others))
  is-union = record {
    ordered = test_is _ (sorted-put_all labels_cmp labels_total (left ++ others) [] tt);
    values = λ q.
        ap (find labels_cmp q) (fold-append (λ (entries : List Element) (pair : Element). put labels_cmp pair.0 pair.1 entries) [] left others)
        ∙ find-put_all labels_cmp labels_total q others (put_all labels_cmp [] left) (rises-filter labels_cmp (λ e. e.0) (shares_none m left) right (rises-entries labels_cmp right (is_test rights)))
        ∙ ap (option_or (find labels_cmp q others)) (find-put_all labels_cmp labels_total q left [] (rises-entries labels_cmp left (is_test lefts)))
        ∙ swapped q (find labels_cmp q left) refl;
  }

-- the three operators
pub sets-by-key : SetsByKey
sets-by-key = record {
  and = λ boolean m left right i. Vector (filter (has-shares m right i) left);
  unless = λ boolean m left right i. Vector (filter (λ (e : Element). not (has-shares m right i e)) left);
  or = λ boolean m left right lefts rights.
      subst (λ (has : Element → Bool). IsUnion left (filter (shares_none m left) right) (put_all labels_cmp [] (left ++ filter (λ e. not (has e)) right)))
      (sym (has-shares m left)) (is-union m left right lefts rights);
}
