-- Signs, and the operators on numbers: two scalars, and a vector with a scalar.
use Rattle.std.specs.Prelude.{ℤ, pos, neg_ℤ, List, [], ◌∷◌, Bool, true, false, Option, Some, None, map, not, int_le, int_lt, if◌then◌else◌}
use Rattle.std.specs.List.{flat_map}
use Rattle.std.specs.Ordering.{int_eq}
use Rattle.op_base.specs.Labels.{Texts}
use Rattle.ql_tree.specs.Arithmetic.{clamped, arith_of}
use Rattle.ql_tree.specs.declared.tree.BinaryOp.{BinaryOp}
use Rattle.ql_tree.specs.declared.tree.BinaryOp.TheVariants.{Arith, Eq, Ne, Gt, Lt, Ge, Le, And, Unless, Or}
use Rattle.ql_call.specs.Clashes.{gathered}
use Rattle.ql_call.specs.Elements.{Element, without_name}
use Rattle.ql_call.specs.declared.changed.Changed.{Changed}
use Rattle.ql_call.specs.declared.outcome.Outcome.{Outcome}
use Rattle.ql_call.specs.declared.outcome.Outcome.TheVariants.{Vector, Scalar, ZeroScalar}

-- an element of which a step left these labels and this value
abbrev pub changed_to : Texts → Texts → ℤ → Changed
changed_to from to value = record { from = from; to = to; value = value }

-- minus negates an element, and drops its name
abbrev pub negated : Element → Changed
negated e = changed_to e.0 (without_name e.0) (clamped (neg_ℤ e.1))

-- a sign of a scalar
abbrev pub signed_scalar : Bool → ℤ → Outcome
signed_scalar true n = Scalar (clamped (neg_ℤ n))
signed_scalar false n = Scalar n

-- a sign of a vector; plus changes nothing
abbrev pub signed_vector : Bool → List Element → Outcome
signed_vector true elements = gathered (map negated elements)
signed_vector false elements = Vector elements

-- a sign before a scalar or a vector
abbrev pub signed : Bool → Option ℤ → List Element → Outcome
signed minus (Some n) elements = signed_scalar minus n
signed minus None elements = signed_vector minus elements

-- a comparison with `bool` is 1 or 0; without, it gives what it keeps, or nothing
abbrev pub verdict : Bool → ℤ → Bool → Option ℤ
verdict true kept true = Some (pos 1)
verdict true kept false = Some (pos 0)
verdict false kept true = Some kept
verdict false kept false = None

-- what an operator other than `and`, `unless` and `or` gives of two numbers, if anything
abbrev pub number_of : BinaryOp → Bool → ℤ → ℤ → ℤ → Option ℤ
number_of (Arith op) boolean kept a b = arith_of op a b
number_of Eq boolean kept a b = verdict boolean kept (int_eq a b)
number_of Ne boolean kept a b = verdict boolean kept (not (int_eq a b))
number_of Gt boolean kept a b = verdict boolean kept (int_lt b a)
number_of Lt boolean kept a b = verdict boolean kept (int_lt a b)
number_of Ge boolean kept a b = verdict boolean kept (int_le b a)
number_of Le boolean kept a b = verdict boolean kept (int_le a b)
number_of And boolean kept a b = None
number_of Unless boolean kept a b = None
number_of Or boolean kept a b = None

-- a scalar, or a division by zero
abbrev pub scalar_or_zero : Option ℤ → Outcome
scalar_or_zero None = ZeroScalar
scalar_or_zero (Some n) = Scalar n

-- two scalars; a comparison of them has `bool`, and no expression that has a type combines them with `and`,
-- `unless` or `or`
abbrev pub of_scalars : BinaryOp → ℤ → ℤ → Outcome
of_scalars op a b = scalar_or_zero (number_of op true (pos 0) a b)

-- arithmetic and `bool` drop the name
abbrev pub drops_name : BinaryOp → Bool → Bool
drops_name (Arith op) boolean = true
drops_name _ boolean = boolean

-- the labels that an operator leaves of an element's: with the name only in a comparison without `bool`
abbrev pub named_by : BinaryOp → Bool → Texts → Texts
named_by op boolean labels = if drops_name op boolean then without_name labels else labels

-- an element is left out where the operator gives nothing
abbrev pub changed_by : Texts → Texts → Option ℤ → List Changed
changed_by from to None = []
changed_by from to (Some value) = changed_to from to value ∷ []

-- an element with a scalar on its right
abbrev pub left_element : BinaryOp → Bool → ℤ → Element → List Changed
left_element op boolean n e = changed_by e.0 (named_by op boolean e.0) (number_of op boolean e.1 e.1 n)

-- an element with a scalar on its left
abbrev pub right_element : BinaryOp → Bool → ℤ → Element → List Changed
right_element op boolean n e = changed_by e.0 (named_by op boolean e.0) (number_of op boolean e.1 n e.1)

-- a vector with a scalar on its right: each element by itself
abbrev pub of_left_vector : BinaryOp → Bool → List Element → ℤ → Outcome
of_left_vector op boolean elements n = gathered (flat_map (left_element op boolean n) elements)

-- a vector with a scalar on its left: each element by itself
abbrev pub of_right_vector : BinaryOp → Bool → ℤ → List Element → Outcome
of_right_vector op boolean n elements = gathered (flat_map (right_element op boolean n) elements)
