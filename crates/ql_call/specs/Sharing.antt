-- `and`, `unless` and `or` by the keys that two vectors share: the contract of `sets_by_key`.
use Rattle.std.specs.Prelude.{◌≡◌, List, Bool, true, not, Option, filter}
use Rattle.std.specs.List.{list_any}
use Rattle.std.specs.Option.{option_or}
use Rattle.op_base.specs.Labels.{Texts}
use Rattle.srv_store.specs.LabelMaps.{value_of}
use Rattle.srv_store.specs.Stores.{same_labels}
use Rattle.ql_tree.specs.declared.tree.BinaryOp.TheVariants.{And, Unless, Or}
use Rattle.ql_tree.specs.declared.tree.Matching.{Matching}
use Rattle.ql_call.specs.Elements.{Element}
use Rattle.ql_call.specs.Matched.{key_of}
use Rattle.ql_call.specs.Operands.{outcome_elements}
use Rattle.ql_call.specs.Ordered.{in_label_order}
use Rattle.ql_call.specs.Sets.{of_vectors}
use Rattle.ql_call.specs.declared.outcome.Outcome.TheVariants.{Vector}

-- some element of the others has an equal key
abbrev pub shares_key : Option Matching → List Element → Element → Bool
shares_key m others e = list_any (λ (other : Element). same_labels (key_of m e.0) (key_of m other.0)) others

-- no element of the others has an equal key
abbrev pub shares_none : Option Matching → List Element → Element → Bool
shares_none m others e = not (shares_key m others e)

-- a vector of the elements of two
pub record IsUnion (left right given : List Element) : Type 0 where
  -- it is in label order
  pub ordered : in_label_order given ≡ true
  -- at labels it has what the left one has there, or else what the right one has
  pub values : (labels : Texts) → value_of given labels ≡ option_or (value_of left labels) (value_of right labels)

-- the three operators
pub record SetsByKey : Type 0 where
  -- `and` keeps the left elements whose key some right one has
  pub and : (boolean : Bool) (m : Option Matching) (left right : List Element)
      → of_vectors And boolean m left right ≡ Vector (filter (shares_key m right) left)
  -- `unless` keeps the left elements whose key no right one has
  pub unless : (boolean : Bool) (m : Option Matching) (left right : List Element)
      → of_vectors Unless boolean m left right ≡ Vector (filter (shares_none m right) left)
  -- `or` gives the left elements, and the right ones whose key no left one has
  pub or : (boolean : Bool) (m : Option Matching) (left right : List Element) → in_label_order left ≡ true → in_label_order right ≡ true
      → IsUnion left (filter (shares_none m left) right) (outcome_elements (of_vectors Or boolean m left right))
