-- Vectors stand in strict label order: no two elements have equal labels. What a node comes to does where its
-- operands do, which is the contract of `nodes_keep_order`.
use Rattle.std.specs.Prelude.{◌≡◌, ℕ, ℤ, List, Bool, true, Option}
use Rattle.std.specs.FinMap as finite
use Rattle.op_base.specs.declared.moment.Moment.{Moment}
use Rattle.op_base.specs.Labels.{labels_cmp}
use Rattle.srv_store.specs.LabelMaps.{LabelMap}
use Rattle.ql_tree.specs.declared.tree.AggregateOp.{AggregateOp}
use Rattle.ql_tree.specs.declared.tree.BinaryOp.{BinaryOp}
use Rattle.ql_tree.specs.declared.tree.Grouping.{Grouping}
use Rattle.ql_tree.specs.declared.tree.Matching.{Matching}
use Rattle.ql_call.specs.Aggregates.{aggregate}
use Rattle.ql_call.specs.Calls.{call_of}
use Rattle.ql_call.specs.Elements.{Element}
use Rattle.ql_call.specs.Operators.{signed}
use Rattle.ql_call.specs.Sets.{binary}
use Rattle.ql_call.specs.declared.operand.Operand.{Operand}
use Rattle.ql_call.specs.declared.operand.Operand.TheVariants as operand
use Rattle.ql_call.specs.declared.outcome.Outcome.{Outcome}
use Rattle.ql_call.specs.declared.outcome.Outcome.TheVariants as outcome

-- the label sets of entries strictly rise
abbrev pub in_label_order : {X : Type 0} → LabelMap X → Bool
in_label_order entries = finite.is_sorted labels_cmp entries

-- a vector is in label order; a scalar and a failure have no elements
abbrev pub is_ordered : Outcome → Bool
is_ordered (outcome.Vector elements) = in_label_order elements
is_ordered (outcome.Scalar n) = true
is_ordered (outcome.Clash these those) = true
is_ordered outcome.ZeroScalar = true

-- the elements of an operand, or its series, are in label order
abbrev pub has_order : Operand → Bool
has_order (operand.Text text) = true
has_order (operand.Selected elements moments labels) = in_label_order elements
has_order (operand.Ranged series range labels) = in_label_order series
has_order (operand.Value given) = is_ordered given

-- what the nodes come to
pub record NodesKeepOrder : Type 0 where
  -- a sign of a scalar or of a vector that is in order
  pub signs : (minus : Bool) (n : Option ℤ) (elements : List Element) → in_label_order elements ≡ true → is_ordered (signed minus n elements) ≡ true
  -- an operator, where its left side is in order; only `and` and `unless` hand elements on as they stand
  pub operators : (op : BinaryOp) (boolean : Bool) (m : Option Matching) (a b : Option ℤ) (left right : List Element)
      → in_label_order left ≡ true → is_ordered (binary op boolean m a b left right) ≡ true
  -- an aggregate, whatever its elements
  pub aggregates : (op : AggregateOp) (g : Option Grouping) (label : List ℕ) (k : ℤ) (elements : List Element)
      → is_ordered (aggregate op g label k elements) ≡ true
  -- a call, whatever its operands
  pub calls : (function : List ℕ) (t : Moment) (operands : List Operand) → is_ordered (call_of function t operands) ≡ true
