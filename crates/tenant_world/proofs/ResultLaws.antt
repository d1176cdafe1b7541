-- What an enforced rule gives, and what the rule as it is written gives of the namespace's own entries.
use Rattle.std.proofs.Common.{◌≡◌, ℕ, ℤ, ◌<◌, Bool, true, false, cond, List, [], ◌∷◌, length, unwrap_or, Option, None, Some, IfSome, nat_eq, refl, sym, ap, ◌∙◌, arith}
use Rattle.std.specs.List.{AllByRecursion}
use Rattle.std.specs.declared.cmp.Ordering.TheVariants.{Less, Equal, Greater}
use Rattle.std.specs.Ordering.{nat_cmp}
use Rattle.std.specs.Cmp.Lexicographic.{pointwise, bytes_decides, slice_cmp, nat_list_cmp_total}
use Rattle.std.specs.FinMap.Entries.{by_order, put, find-put}
use Rattle.op_base.specs.declared.moment.Moment.{Moment}
use Rattle.op_base.specs.Maps.{with_entry, without_entry}
use Rattle.op_base.specs.Labels.{Texts, labels_with, labels_with_all, labels_cmp}
use Rattle.op_base.specs.Matchers.{label_value}
use Rattle.op_base.specs.declared.label_names.TheConstants.{METRIC_NAME, NAMESPACE_LABEL}
use Rattle.srv_store.specs.LabelMaps.{has_labels, with_value}
use Rattle.srv_store.specs.Stores.{Store, Vector, owns, of_namespace}
use Rattle.ql_call.specs.declared.outcome.Outcome.{Outcome}
use Rattle.ql_call.specs.declared.outcome.Outcome.TheVariants as outcome
use Rattle.ql_eval.specs.Values.{value_of}
use Rattle.ql_eval.proofs.EnforcedLaws.{value-of-enforced-home}
use Rattle.srv_rule.specs.Recorded.{recorded_labels, gathered, results_of}
use Rattle.srv_rule.specs.Rounds.{around, Placed}
use Rattle.tenant_world.specs.Tenants.{home_label}
use Rattle.tenant_world.proofs.EnforcedFiles.{enforced_placed, IsPutLast}

-- a name is equal to itself
pub same_name : (n : List ℕ) → pointwise nat_eq n n ≡ true
same_name n = (bytes_decides n n).1 refl

-- another owner's labels aren't the namespace's
pub others_labels : (n m : List ℕ) (l : Texts) → pointwise nat_eq n m ≡ false → owns m l ≡ true → owns n l ≡ false
others_labels n m l other own = ap (pointwise nat_eq n) (sym ((bytes_decides m (label_value l NAMESPACE_LABEL.now)).0 own)) ∙ other

-- labels with the namespace put over them are its own
pub owned : (n : List ℕ) (l : Texts) → 0 < length n → owns n (labels_with l NAMESPACE_LABEL.now n) ≡ true
owned [] l some = absurd (omega (arith, some))
owned (b ∷ n) l some =
    ap (λ o. pointwise nat_eq (b ∷ n) (unwrap_or o [])) (find-put (slice_cmp nat_cmp) nat_list_cmp_total NAMESPACE_LABEL.now NAMESPACE_LABEL.now (b ∷ n) l) ∙ same_name (b ∷ n)

-- what the enforced expression comes to is what the written one does over the namespace's entries
pub value-of-rule : (p : Placed) (store : Store) (t : Moment)
    → value_of (around [] store t) (enforced_placed p).rule.expr ≡ value_of (around (home_label p.namespace) (of_namespace p.namespace store) t) p.rule.expr
value-of-rule p store t = value-of-enforced-home p.namespace p.rule.expr store t

-- the labels that a rule of the configuration has
abbrev enforced_labels : List ℕ → Texts → Texts
enforced_labels n labels = with_entry labels NAMESPACE_LABEL.now n

-- the enforced label among the rule's labels, or put over the results: the same
module _ (n name : List ℕ) (labels : Texts) (last : IsPutLast n labels) where
  recorded-of : (element : Texts) → recorded_labels name (enforced_labels n labels) [] element ≡ recorded_labels name labels (home_label n) element
  recorded-of element = last (labels_with (without_entry element METRIC_NAME.now) METRIC_NAME.now name)

  gathered-of : (results elements : Vector) → gathered name (enforced_labels n labels) [] results elements ≡ gathered name labels (home_label n) results elements
  gathered-of results [] = refl
  gathered-of results (e ∷ es) =
      ap (λ l. cond (has_labels results l) None (gathered name (enforced_labels n labels) [] (with_value results l e.1) es)) (recorded-of e.0)
      ∙ ap (cond (has_labels results (recorded_labels name labels (home_label n) e.0)) None)
      (gathered-of (with_value results (recorded_labels name labels (home_label n) e.0) e.1) es)

-- the results of a rule are its namespace's
abbrev pub Own : List ℕ → Vector → Type 0
Own n results = AllByRecursion (λ (e : Texts × ℤ). owns n e.0 ≡ true) results

own-put : (n : List ℕ) (l : Texts) (v : ℤ) (m : Vector) → owns n l ≡ true → Own n m → Own n (with_value m l v)
own-put n l v [] own h = (own, tt)
own-put n l v (e ∷ m) own h =
    elim (labels_cmp l e.0) as (λ o. Own n (by_order o ((l, v) ∷ e ∷ m) ((e.0, v) ∷ m) (e ∷ put labels_cmp l v m))) [
      | Less ↦ (own, h)
      | Equal ↦ (h.0, h.1)
      | Greater ↦ (h.0, own-put n l v m own h.1)
    ]

module _ (n name : List ℕ) (labels : Texts) (some : 0 < length n) where
  gathered-own : (results elements : Vector) → Own n results → IfSome (gathered name labels (home_label n) results elements) (Own n)
  gathered-own results [] h = h
  gathered-own results (e ∷ es) h =
      let l = recorded_labels name labels (home_label n) e.0 in
      elim (has_labels results l) as (λ b. IfSome (cond b None (gathered name labels (home_label n) (with_value results l e.1) es)) (Own n)) [
        | true ↦ tt
        | false ↦ gathered-own (with_value results l e.1) es
            (own-put n l e.1 results (owned n (labels_with_all (labels_with (without_entry e.0 METRIC_NAME.now) METRIC_NAME.now name) labels) some) h)
      ]

  pub results-own : (given : Outcome) → IfSome (results_of name labels (home_label n) given) (Own n)
  results-own (outcome.Vector elements) = gathered-own [] elements tt
  results-own (outcome.Scalar v) = gathered-own [] (([], v) ∷ []) tt
  results-own (outcome.Clash these those) = tt
  results-own outcome.ZeroScalar = tt

-- the same of what an expression comes to
pub results-of : (n name : List ℕ) (labels : Texts) (given : Outcome) → IsPutLast n labels
    → results_of name (with_entry labels NAMESPACE_LABEL.now n) [] given ≡ results_of name labels (home_label n) given
results-of n name labels (outcome.Vector elements) last = gathered-of n name labels last [] elements
results-of n name labels (outcome.Scalar v) last = gathered-of n name labels last [] (([], v) ∷ [])
results-of n name labels (outcome.Clash these those) last = refl
results-of n name labels outcome.ZeroScalar last = refl
