-- Two vectors whose elements are matched by keys. The one side is the right one, with `group_right` the
-- left one; each element of the other side, the many side, finds the element of the one side that has its
-- key. A key that two elements of the one side have finds none.
use Rattle.std.specs.Prelude.{ℕ, ℤ, List, [], ◌∷◌, Bool, true, false, Option, Some, None, fold, map, if◌then◌else◌}
use Rattle.std.specs.List.{flat_map}
use Rattle.op_base.specs.Labels.{Texts, labels_with, labels_cmp}
use Rattle.op_base.specs.Matchers.{label_value}
use Rattle.op_base.specs.Maps.{grouped, members_at}
use Rattle.srv_store.specs.LabelMaps.{LabelMap}
use Rattle.ql_tree.specs.declared.tree.BinaryOp.{BinaryOp}
use Rattle.ql_tree.specs.declared.tree.Matching.{Matching}
use Rattle.ql_tree.specs.declared.tree.Side.{Side}
use Rattle.ql_call.specs.Clashes.{Pair, first_clash, lesser, placed, vector_unless}
use Rattle.ql_call.specs.Elements.{Element, only, without, without_name}
use Rattle.ql_call.specs.Operators.{changed_to, changed_by, number_of, named_by}
use Rattle.ql_call.specs.declared.changed.Changed.{Changed}
use Rattle.ql_call.specs.declared.outcome.Outcome.{Outcome}

-- the key of labels: those named in `on`, or all but those of `ignoring` and the name
abbrev pub key_by : Bool → List (List ℕ) → Texts → Texts
key_by true names labels = only names labels
key_by false names labels = without_name (without names labels)

-- no clause is `ignoring ()`
abbrev pub key_of : Option Matching → Texts → Texts
key_of None labels = key_by false [] labels
key_of (Some m) labels = key_by m.on m.labels labels

-- what is left of labels without a `group_` clause: those named in `on`, or all but those of `ignoring`
abbrev pub left_by : Bool → List (List ℕ) → Texts → Texts
left_by true names labels = only names labels
left_by false names labels = without names labels

-- with a `group_` clause, each label of its list is taken from the one side, or removed where that lacks it
abbrev pub with_included : List (List ℕ) → Texts → Texts → Texts
with_included names one many = fold (λ labels name. labels_with labels name (label_value one name)) many names

-- the labels of a pair: of the matching without a group clause, of the many side with one and the labels that
-- it includes
abbrev pub side_labels : Bool → List (List ℕ) → Option Side → Texts → Texts → Texts
side_labels on names None one many = left_by on names many
side_labels on names (Some side) one many = with_included side.include one many

-- the labels of the result of two elements, before the name may be dropped
abbrev pub pair_labels : Option Matching → Texts → Texts → Texts
pair_labels None one many = many
pair_labels (Some m) one many = side_labels m.on m.labels m.side one many

-- the `group_` clause, if there is one
abbrev pub side_of : Option Matching → Option Side
side_of None = None
side_of (Some m) = m.side

-- there is a group clause
abbrev pub is_grouped : Option Side → Bool
is_grouped None = false
is_grouped (Some side) = true

-- with `group_right` the left side is the one side
abbrev pub is_swapped : Option Side → Bool
is_swapped None = false
is_swapped (Some side) = if side.left then false else true

-- an element and its key
abbrev pub keyed : Option Matching → Element → Changed
keyed m e = changed_to e.0 (key_of m e.0) e.1

-- the elements of the one side by their keys
abbrev pub ones_by_key : Option Matching → List Element → LabelMap (List Element)
ones_by_key m ones = grouped labels_cmp (λ (e : Element). key_of m e.0) ones

-- the only one, if there is just one
abbrev pub sole : List Element → Option Element
sole [] = None
sole (e ∷ []) = Some e
sole (e ∷ other ∷ rest) = None

-- what the operator gives of two elements; a comparison that holds keeps the value of the left one
abbrev pub pair_number : BinaryOp → Bool → Bool → ℤ → ℤ → Option ℤ
pair_number op boolean false one many = number_of op boolean many many one
pair_number op boolean true one many = number_of op boolean one one many

-- the result of an element of the many side and its partner
abbrev pub pair_result : BinaryOp → Bool → Option Matching → Element → Option Element → List Changed
pair_result op boolean m many None = []
pair_result op boolean m many (Some one) =
    changed_by many.0 (named_by op boolean (pair_labels m one.0 many.0)) (pair_number op boolean (is_swapped (side_of m)) one.1 many.1)

-- what an element of the many side gives with the one element of its key on the other side
abbrev pub result_of : BinaryOp → Bool → Option Matching → LabelMap (List Element) → Element → List Changed
result_of op boolean m ones many = pair_result op boolean m many (sole (members_at labels_cmp ones (key_of m many.0)))

-- the results of all elements of the many side
abbrev pub results_of : BinaryOp → Bool → Option Matching → List Element → List Element → List Changed
results_of op boolean m ones manys = flat_map (result_of op boolean m (ones_by_key m ones)) manys

-- an element that gave a result, and its key
abbrev pub rekeyed : Option Matching → Changed → Changed
rekeyed m c = changed_to c.from (key_of m c.from) c.value

-- without a `group_` clause, two elements that each give a result have different keys
abbrev pub many_clash : Bool → Option Matching → List Changed → Option Pair
many_clash true m results = None
many_clash false m results = first_clash (map (rekeyed m) results)

-- the least clash: of two elements of the one side with equal keys, of two of the other side, and of two
-- results with equal labels
abbrev pub least_clash : Option Matching → List Element → List Changed → Option Pair
least_clash m ones results =
    lesser (first_clash (map (keyed m) ones)) (lesser (many_clash (is_grouped (side_of m)) m results) (first_clash results))

-- what two sides give: their results, or the least clash
abbrev pub matched_sides : BinaryOp → Bool → Option Matching → List Element → List Element → Outcome
matched_sides op boolean m ones manys =
    let results = results_of op boolean m ones manys in
    vector_unless (least_clash m ones results) (placed results)

-- an operator of two vectors, but for `and`, `unless` and `or`
abbrev pub matched : BinaryOp → Bool → Option Matching → List Element → List Element → Outcome
matched op boolean m left right =
    if is_swapped (side_of m) then matched_sides op boolean m left right else matched_sides op boolean m right left
