-- Elements that are placed by their labels after a step, and the partners of matching.
use Rattle.std.proofs.Common.{◌≡◌, ℤ, Bool, true, false, cond, ◌||◌, List, [], ◌∷◌, Option, Some, None, fold, is_some, map, refl, sym, ap, ◌∙◌}
use mathlib.Core.Bool.{true≢false}
use Rattle.std.proofs.Math.Bool.{or-false}
use Rattle.std.specs.Cmp.{Equal-is, tied_itself}
use Rattle.std.specs.FinMap.Entries.{find}
use Rattle.std.specs.List.{AllByRecursion, Contains, flat_map, list_any}
use Rattle.std.specs.Ordering.{eq_by_cmp, is_eq}
use Rattle.op_base.specs.Labels.{Texts, labels_cmp, labels_ties}
use Rattle.srv_store.specs.LabelMaps.{with_value}
use Rattle.srv_store.specs.Stores.{Vector}
use Rattle.op_base.specs.Maps.{put_all}
use Rattle.srv_store.proofs.OrderLemmas.{labels_same, labels_total}
use Rattle.srv_store.proofs.RisingLemmas.{Rises, is_test, rises-of, sorted-put_all, test_is}
use Rattle.ql_call.specs.Clashes.{Pair, first_clash, placed}
use Rattle.ql_call.specs.Elements.{Element}
use Rattle.ql_call.specs.LeastClash.{Clash, IsLeastOf, before_step}
use Rattle.ql_call.specs.Matched.{key_of, pair_result, sole}
use Rattle.ql_call.specs.Ordered.{in_label_order}
use Rattle.ql_call.specs.Pairing.{IsVectorOf, PartnersByKey, VectorsByLabels, has_after}
use Rattle.ql_call.specs.declared.changed.Changed.{Changed}
use Rattle.ql_call.proofs.ClashLemmas.{all-contained, any-contained, first-least, from_of, same-from}
use Rattle.ql_call.proofs.FoundLemmas.{found-put_all, has, has-put_all, same_labels-itself}
use Rattle.ql_call.proofs.GroupLemmas.{groups-by-key}

-- an element of the many side meets the only one of its key
pub partners-by-key : PartnersByKey
partners-by-key op boolean m ones manys =
    λ i. flat_map (λ (many : Element). pair_result op boolean m many (sole ((groups-by-key (key_of m) ones).members (key_of m many.0) i))) manys

-- an element by its labels after the step
abbrev after_step : Changed → Element
after_step c = (c.to, c.value)

placed-put_all : (changed : List Changed) (vector : Vector)
    → fold (λ vector (c : Changed). with_value vector c.to c.value) vector changed ≡ put_all labels_cmp vector (map after_step changed)
placed-put_all [] vector = refl
placed-put_all (c ∷ changed) vector = placed-put_all changed (with_value vector c.to c.value)

has-after-step : (labels : Texts) (changed : List Changed) → has labels_cmp labels (map after_step changed) ≡ list_any (has_after labels) changed
has-after-step labels [] = refl
has-after-step labels (c ∷ changed) =
    either (eq_by_cmp labels_cmp labels c.to) ∙ (λ i. sym (labels_ties labels c.to) i || has-after-step labels changed i)
  where
    either : (b : Bool) → is_some (cond b (Some c.value) (find labels_cmp labels (map after_step changed))) ≡ (b || has labels_cmp labels (map after_step changed))
    either true = refl
    either false = refl

module _ (changed : List Changed) (rising : Rises labels_cmp from_of changed) (none : (pair : Pair) → ¬ (Clash changed pair)) where
  -- where none clash, elements with equal labels after the step are one
  one-value : (c : Changed) → Contains changed c → (d : Changed) → Contains changed d → eq_by_cmp labels_cmp c.to d.to ≡ true → Some d.value ≡ Some c.value
  one-value c c_in d d_in tied =
      elim (eq_by_cmp labels_cmp c.from d.from) as (λ b. eq_by_cmp labels_cmp c.from d.from ≡ b → Some d.value ≡ Some c.value) [
        | true ↦ λ same.
            ap (λ (e : Changed). Some e.value) (same-from changed d c rising d_in c_in (sym (labels_same c.from d.from ((Equal-is (labels_cmp c.from d.from)).0 same))))
        | false ↦ λ apart. absurd (none (c.from, d.from) (record {
          first = c;
          second = d;
          first_in = c_in;
          second_in = d_in;
          apart = λ same. absurd (true≢false (sym (ap is_eq (tied_itself labels_total c.from)) ∙ ap (eq_by_cmp labels_cmp c.from) same ∙ apart));
          alike = labels_same c.to d.to ((Equal-is (labels_cmp c.to d.to)).0 tied);
          told = refl;
        }))
      ] refl

  all-agree : (c : Changed) → (ds : List Changed) → AllByRecursion (λ (d : Changed). eq_by_cmp labels_cmp c.to d.to ≡ true → Some d.value ≡ Some c.value) ds
      → AllByRecursion (λ (e : Element). eq_by_cmp labels_cmp c.to e.0 ≡ true → Some e.1 ≡ Some c.value) (map after_step ds)
  all-agree c [] h = tt
  all-agree c (d ∷ ds) h = (h.0, all-agree c ds h.1)

  list_any-in : (c : Changed) → Contains changed c → list_any (has_after c.to) changed ≡ true
  list_any-in c c_in = any-contained (has_after c.to) changed c c_in (same_labels-itself c.to)

  is-vector : IsVectorOf changed (placed changed)
  is-vector = record {
    ordered = ap (in_label_order {X = ℤ}) (placed-put_all changed []) ∙ test_is _ (sorted-put_all labels_cmp labels_total (map after_step changed) [] tt);
    labels = λ labels.
        ap (has labels_cmp labels) (placed-put_all changed []) ∙ has-put_all labels_cmp labels_total labels (map after_step changed) []
        ∙ or-false (has labels_cmp labels (map after_step changed)) ∙ has-after-step labels changed;
    values = λ c c_in.
        ap (find labels_cmp c.to) (placed-put_all changed [])
        ∙ found-put_all labels_cmp labels_total c.to (Some c.value) (map after_step changed) []
        (all-agree c changed (all-contained (λ (d : Changed). eq_by_cmp labels_cmp c.to d.to ≡ true → Some d.value ≡ Some c.value) changed (one-value c c_in)))
        ∙ ap (λ b. cond b (Some c.value) None) (has-after-step c.to changed ∙ list_any-in c c_in);
  }

-- where none is told none clash
none-clash : (changed : List Changed) (found : Option Pair) → found ≡ None → IsLeastOf (Clash changed) found → (pair : Pair) → ¬ (Clash changed pair)
none-clash changed None is none = none
none-clash changed (Some pair) is least = cc

pub vectors-by-labels : VectorsByLabels
vectors-by-labels changed ordered none =
    let rising : Rises labels_cmp from_of changed = rises-of labels_cmp before_step changed (is_test ordered) in
    is-vector changed rising (none-clash changed (first_clash changed) none (first-least changed rising))
