-- The operands of a node. Where one has failed, the node fails as the first of them does; else the node is
-- what its own page says of their elements, scalars and texts. An operand of another sort than a node takes
-- counts as an empty vector, as 0 and as the empty text: no expression that has a type holds one.
use Rattle.std.specs.Prelude.{ℕ, ℤ, pos, List, [], ◌∷◌, Option, Some, None, unwrap_or, slice_get}
use Rattle.std.specs.Option.{option_map_or}
use Rattle.ql_call.specs.Elements.{Element}
use Rattle.ql_call.specs.declared.operand.Operand.{Operand}
use Rattle.ql_call.specs.declared.operand.Operand.TheVariants as operand
use Rattle.ql_call.specs.declared.outcome.Outcome.{Outcome}
use Rattle.ql_call.specs.declared.outcome.Outcome.TheVariants as outcome

-- the elements of an outcome
abbrev pub outcome_elements : Outcome → List Element
outcome_elements (outcome.Vector elements) = elements
outcome_elements (outcome.Scalar n) = []
outcome_elements (outcome.Clash these those) = []
outcome_elements outcome.ZeroScalar = []

-- the elements of an operand
abbrev pub elements_of : Operand → List Element
elements_of (operand.Text text) = []
elements_of (operand.Selected elements moments labels) = elements
elements_of (operand.Ranged series range labels) = []
elements_of (operand.Value given) = outcome_elements given

-- the number, where the operand is a scalar
abbrev pub outcome_scalar : Outcome → Option ℤ
outcome_scalar (outcome.Vector elements) = None
outcome_scalar (outcome.Scalar n) = Some n
outcome_scalar (outcome.Clash these those) = None
outcome_scalar outcome.ZeroScalar = None

-- the number of a scalar
abbrev pub scalar_of : Operand → Option ℤ
scalar_of (operand.Text text) = None
scalar_of (operand.Selected elements moments labels) = None
scalar_of (operand.Ranged series range labels) = None
scalar_of (operand.Value given) = outcome_scalar given

-- the text of a string
abbrev pub text_of : Operand → List ℕ
text_of (operand.Text text) = text
text_of (operand.Selected elements moments labels) = []
text_of (operand.Ranged series range labels) = []
text_of (operand.Value given) = []

-- of the operand with that number, from 0 on
abbrev pub elements_at : ℕ → List Operand → List Element
elements_at number operands = option_map_or elements_of (slice_get operands number) []

-- the number of the operand at that place, where it is a scalar
abbrev pub number_at : ℕ → List Operand → Option ℤ
number_at number operands = option_map_or scalar_of (slice_get operands number) None

-- the number of the scalar at that place, 0 where there is none
abbrev pub scalar_at : ℕ → List Operand → ℤ
scalar_at number operands = unwrap_or (number_at number operands) (pos 0)

-- the text of the operand at that place, empty where there is none
abbrev pub text_at : ℕ → List Operand → List ℕ
text_at number operands = option_map_or text_of (slice_get operands number) []

-- an outcome that is a failure
abbrev pub failure : Outcome → Option Outcome
failure (outcome.Vector elements) = None
failure (outcome.Scalar n) = None
failure (outcome.Clash these those) = Some (outcome.Clash these those)
failure outcome.ZeroScalar = Some outcome.ZeroScalar

-- the failure of an operand that failed
abbrev pub failure_of : Operand → Option Outcome
failure_of (operand.Text text) = None
failure_of (operand.Selected elements moments labels) = None
failure_of (operand.Ranged series range labels) = None
failure_of (operand.Value given) = failure given

-- the first failure, where there is one, else the later one
abbrev pub or_else : Option Outcome → Option Outcome → Option Outcome
or_else None later = later
or_else (Some given) later = Some given

-- the failure of the first operand that failed
abbrev pub failure_in : List Operand → Option Outcome
failure_in [] = None
failure_in (given ∷ operands) = or_else (failure_of given) (failure_in operands)

-- the failure of the first operand that failed, or else what the node comes to
abbrev pub unless_failed : List Operand → Outcome → Outcome
unless_failed operands given = unwrap_or (failure_in operands) given

-- what an operand is as a whole expression
abbrev pub outcome_of : Operand → Outcome
outcome_of (operand.Text text) = outcome.Vector []
outcome_of (operand.Selected elements moments labels) = outcome.Vector elements
outcome_of (operand.Ranged series range labels) = outcome.Vector []
outcome_of (operand.Value given) = given
