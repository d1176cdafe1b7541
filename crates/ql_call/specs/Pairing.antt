-- Which elements of two vectors meet, and what elements come to whose labels a step changed: the contracts of
-- `partners_by_key` and `vectors_by_labels`.
use Rattle.std.specs.Prelude.{◌≡◌, List, Bool, true, Option, Some, None, filter, map}
use Rattle.std.specs.List.{Contains, flat_map, list_any}
use Rattle.op_base.specs.Labels.{Texts}
use Rattle.srv_store.specs.LabelMaps.{has_labels, value_of}
use Rattle.srv_store.specs.Stores.{same_labels}
use Rattle.ql_tree.specs.declared.tree.BinaryOp.{BinaryOp}
use Rattle.ql_tree.specs.declared.tree.Matching.{Matching}
use Rattle.ql_call.specs.Clashes.{first_clash, placed}
use Rattle.ql_call.specs.Elements.{Element}
use Rattle.ql_call.specs.Groups.{is_keyed_by}
use Rattle.ql_call.specs.LeastClash.{before_step}
use Rattle.ql_call.specs.Matched.{key_of, pair_result, results_of, sole}
use Rattle.ql_call.specs.Ordered.{in_label_order}
use Rattle.ql_call.specs.declared.changed.Changed.{Changed}

-- the one element that has the key of labels, where only one has it
abbrev pub partner_in : Option Matching → List Element → Texts → Option Element
partner_in m ones labels = sole (filter (is_keyed_by (key_of m) (key_of m labels)) ones)

-- each element of the many side gives a result with its partner
abbrev pub PartnersByKey : Type 0
PartnersByKey = (op : BinaryOp) (boolean : Bool) (m : Option Matching) (ones manys : List Element)
    → results_of op boolean m ones manys ≡ flat_map (λ (many : Element). pair_result op boolean m many (partner_in m ones many.0)) manys

-- an element has these labels after the step
abbrev pub has_after : Texts → Changed → Bool
has_after labels c = same_labels labels c.to

-- the vector of elements by their labels after a step
pub record IsVectorOf (changed : List Changed) (vector : List Element) : Type 0 where
  -- it is in label order
  pub ordered : in_label_order vector ≡ true
  -- labels are there exactly where an element has them
  pub labels : (labels : Texts) → has_labels vector labels ≡ list_any (has_after labels) changed
  -- with the value of the element
  pub values : (c : Changed) → Contains changed c → value_of vector c.to ≡ Some c.value

-- elements whose labels before the step strictly rise come to that vector, where none clash
abbrev pub VectorsByLabels : Type 0
VectorsByLabels = (changed : List Changed) → in_label_order (map before_step changed) ≡ true → first_clash changed ≡ None → IsVectorOf changed (placed changed)
