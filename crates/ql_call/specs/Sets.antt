-- `and`, `unless` and `or`, which compare keys alone, and all operators of two operands.
use Rattle.std.specs.Prelude.{ℤ, List, ◌++◌, Bool, Option, Some, None, filter, not}
use Rattle.op_base.specs.Labels.{labels_cmp}
use Rattle.op_base.specs.Maps.{in_order}
use Rattle.srv_store.specs.LabelMaps.{has_labels}
use Rattle.ql_tree.specs.declared.tree.BinaryOp.{BinaryOp}
use Rattle.ql_tree.specs.declared.tree.BinaryOp.TheVariants.{And, Unless, Or}
use Rattle.ql_tree.specs.declared.tree.Matching.{Matching}
use Rattle.ql_call.specs.Elements.{Element}
use Rattle.ql_call.specs.Matched.{key_of, ones_by_key, matched}
use Rattle.ql_call.specs.Operators.{of_scalars, of_left_vector, of_right_vector}
use Rattle.ql_call.specs.declared.outcome.Outcome.{Outcome}
use Rattle.ql_call.specs.declared.outcome.Outcome.TheVariants.{Vector}

-- some element has the key of this one
abbrev pub has_key : Option Matching → List Element → Element → Bool
has_key m elements e = has_labels (ones_by_key m elements) (key_of m e.0)

-- the elements whose key another vector has, and those whose key it hasn't
abbrev pub shared : Option Matching → List Element → List Element → List Element
shared m elements others = filter (has_key m others) elements

-- the elements whose key no element of the others has
abbrev pub unshared : Option Matching → List Element → List Element → List Element
unshared m elements others = filter (λ (e : Element). not (has_key m others e)) elements

-- an operator of two vectors
abbrev pub of_vectors : BinaryOp → Bool → Option Matching → List Element → List Element → Outcome
of_vectors And boolean m left right = Vector (shared m left right)
of_vectors Unless boolean m left right = Vector (unshared m left right)
of_vectors Or boolean m left right = Vector (in_order labels_cmp (left ++ unshared m right left))
of_vectors op boolean m left right = matched op boolean m left right

-- an operator of two operands, each a scalar or a vector
abbrev pub binary : BinaryOp → Bool → Option Matching → Option ℤ → Option ℤ → List Element → List Element → Outcome
binary op boolean m (Some a) (Some b) left right = of_scalars op a b
binary op boolean m (Some a) None left right = of_right_vector op boolean a right
binary op boolean m None (Some b) left right = of_left_vector op boolean left b
binary op boolean m None None left right = of_vectors op boolean m left right
