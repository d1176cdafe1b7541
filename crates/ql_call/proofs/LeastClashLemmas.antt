-- The least clash of a step and of two sides that are matched.
use Rattle.std.proofs.Common.{◌≡◌, ℤ, Bool, true, false, List, Option, Some, None, map, ◌⊎◌, inl, inr, refl, sym, ◌∙◌}
use mathlib.Core.Bool.{true≢false}
use Rattle.op_base.specs.Labels.{Texts, labels_cmp}
use Rattle.op_base.specs.Maps.{members_at}
use Rattle.ql_tree.specs.declared.tree.BinaryOp.{BinaryOp}
use Rattle.ql_tree.specs.declared.tree.Matching.{Matching}
use Rattle.ql_call.specs.Clashes.{first_clash, lesser}
use Rattle.ql_call.specs.Elements.{Element}
use Rattle.ql_call.specs.LeastClash.{Clash, ClashesAreLeast, IsLeastOf, ManyClash, SidesClash, before_step}
use Rattle.ql_call.specs.Matched.{is_grouped, is_swapped, key_of, keyed, least_clash, many_clash, ones_by_key, pair_labels, pair_number, pair_result, rekeyed, result_of, results_of, side_of, sole}
use Rattle.ql_call.specs.Operators.{changed_by, changed_to, named_by}
use Rattle.ql_call.specs.declared.changed.Changed.{Changed}
use Rattle.ql_call.proofs.ClashLemmas.{first-least, from_of, least-of, lesser-least}
use Rattle.srv_store.proofs.RisingLemmas.{IsOneAt, Rises, is_test, rises-entries, rises-flat_map, rises-map, rises-of}

abbrev labels_of : Element → Texts
labels_of e = e.0

-- an operator gives an element of the many side one result or none, with its labels before the step
one-changed : (from to : Texts) (given : Option ℤ) → IsOneAt labels_cmp from_of from (changed_by from to given)
one-changed from to None = inl refl
one-changed from to (Some value) = inr (changed_to from to value, refl, refl)

one-result : (op : BinaryOp) (boolean : Bool) (m : Option Matching) (many : Element) (one : Option Element)
    → IsOneAt labels_cmp from_of many.0 (pair_result op boolean m many one)
one-result op boolean m many None = inl refl
one-result op boolean m many (Some one) =
    one-changed many.0 (named_by op boolean (pair_labels m one.0 many.0)) (pair_number op boolean (is_swapped (side_of m)) one.1 many.1)

module _ (m : Option Matching) where
  -- results are in the order of their elements of the many side
  results-rise : (op : BinaryOp) (boolean : Bool) (ones manys : List Element) → Rises labels_cmp labels_of manys → Rises labels_cmp from_of (results_of op boolean m ones manys)
  results-rise op boolean ones manys h =
      rises-flat_map labels_cmp labels_of from_of (result_of op boolean m (ones_by_key m ones))
      (λ many. one-result op boolean m many (sole (members_at labels_cmp (ones_by_key m ones) (key_of m many.0)))) manys h

  -- with a `group_` clause elements of the many side don't clash
  many-least : (results : List Changed) (grouped : Bool) → is_grouped (side_of m) ≡ grouped → Rises labels_cmp from_of results
      → IsLeastOf (ManyClash m results) (many_clash grouped m results)
  many-least results true is h = λ pair clash. absurd (true≢false (sym is ∙ clash.0))
  many-least results false is h =
      least-of (Clash (map (rekeyed m) results)) (ManyClash m results) (first_clash (map (rekeyed m) results))
      (λ pair clash. (is, clash)) (λ pair clash. clash.1)
      (first-least (map (rekeyed m) results) (rises-map labels_cmp from_of from_of (rekeyed m) (λ c. refl) results h))

  -- the least of all kinds
  sides-least : (ones : List Element) (results : List Changed) → Rises labels_cmp labels_of ones → Rises labels_cmp from_of results
      → IsLeastOf (SidesClash m ones results) (least_clash m ones results)
  sides-least ones results one_side many_side =
      let many = many_clash (is_grouped (side_of m)) m results in
      lesser-least (Clash (map (keyed m) ones)) (λ pair. ManyClash m results pair ⊎ Clash results pair)
      (first_clash (map (keyed m) ones)) (lesser many (first_clash results))
      (first-least (map (keyed m) ones) (rises-map labels_cmp labels_of from_of (keyed m) (λ e. refl) ones one_side))
      (lesser-least (ManyClash m results) (Clash results) many (first_clash results)
      (many-least results (is_grouped (side_of m)) refl many_side) (first-least results many_side))

pub clashes-are-least : ClashesAreLeast
clashes-are-least = record {
  steps = λ changed h. first-least changed (rises-of labels_cmp before_step changed (is_test h));
  sides = λ op boolean m ones manys one_side many_side.
      sides-least m ones (results_of op boolean m ones manys) (rises-entries labels_cmp ones (is_test one_side))
      (results-rise m op boolean ones manys (rises-entries labels_cmp manys (is_test many_side)));
}
