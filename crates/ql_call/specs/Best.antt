-- `topk` and `bottomk` as a filter: an element is kept where few enough of its group go before it. It is the
-- contract of `best_are_kept`.
use Rattle.std.specs.Prelude.{◌≡◌, ℕ, ℤ, pos, List, Bool, true, false, Option, filter, int_lt}
use Rattle.std.specs.List.{count_by}
use Rattle.std.specs.declared.cmp.Ordering.{Ordering}
use Rattle.std.specs.Ordering.{int_cmp, is_lt, ordering_then}
use Rattle.op_base.specs.Labels.{labels_cmp}
use Rattle.ql_tree.specs.declared.tree.AggregateOp.TheVariants.{TopK, BottomK}
use Rattle.ql_tree.specs.declared.tree.Grouping.{Grouping}
use Rattle.ql_call.specs.Aggregates.{aggregate, group_key}
use Rattle.ql_call.specs.Elements.{Element}
use Rattle.ql_call.specs.Groups.{is_keyed_by}
use Rattle.ql_call.specs.Ordered.{in_label_order}
use Rattle.ql_call.specs.declared.outcome.Outcome.TheVariants.{Vector}

-- values in the order that is asked: for `topk` they fall, for `bottomk` they rise
abbrev pub value_cmp : Bool → ℤ → ℤ → Ordering
value_cmp true this that = int_cmp that this
value_cmp false this that = int_cmp this that

-- an element goes before another: by value, and of equal values by labels
abbrev pub goes_before : Bool → Element → Element → Bool
goes_before top this that = is_lt (ordering_then (value_cmp top this.1 that.1) (labels_cmp this.0 that.0))

-- the elements of an element's group
abbrev pub group_of : Option Grouping → List Element → Element → List Element
group_of g elements e = filter (is_keyed_by (group_key g) (group_key g e.0)) elements

-- how many of its group go before an element
abbrev pub place_of : Bool → Option Grouping → List Element → Element → ℕ
place_of top g elements e = count_by (λ (other : Element). goes_before top other e) (group_of g elements e)

-- fewer than k do
abbrev pub is_best : Bool → Option Grouping → ℤ → List Element → Element → Bool
is_best top g k elements e = int_lt (pos (place_of top g elements e)) k

-- of elements in label order those are kept, in label order
pub record BestAreKept : Type 0 where
  pub top : (g : Option Grouping) (label : List ℕ) (k : ℤ) (elements : List Element) → in_label_order elements ≡ true
      → aggregate TopK g label k elements ≡ Vector (filter (is_best true g k elements) elements)
  pub bottom : (g : Option Grouping) (label : List ℕ) (k : ℤ) (elements : List Element) → in_label_order elements ≡ true
      → aggregate BottomK g label k elements ≡ Vector (filter (is_best false g k elements) elements)
