-- Label selectors, after the type LabelSelector of Kubernetes.
use Rattle.std.specs.Prelude.{ℕ, Bool, true, false, not, List, [], ◌∷◌, ◌++◌, codes, bytes_eq, map, Option, Some, None, option_and_then, unwrap_or, is_some, if◌then◌else◌}
use Rattle.std.specs.Option.{option_map_or}
use Rattle.serde_json.specs.Data.{Data, Items, no_items, item}
use Rattle.serde_json.specs.Find.{as_str, as_array}
use Rattle.op_base.specs.Tags.{is_tag_key, is_tag_value}
use Rattle.op_base.specs.declared.selector.Requirement.{Requirement}
use Rattle.op_base.specs.declared.selector.Requirement.TheVariants as requirement
use Rattle.op_base.specs.declared.selector.Selector.{Selector}
use Rattle.op_manifest.specs.declared.operator.Operator.{Operator}
use Rattle.op_manifest.specs.declared.operator.Operator.TheVariants.{In, NotIn, Exists, DoesNotExist}
use Rattle.op_manifest.specs.declared.shape.TheConstants.ShapeRule.{WRONG_TYPE, MISSING, UNKNOWN_FIELD, BAD_CHOICE, BAD_LABEL}
use Rattle.op_manifest.specs.Shapes.{path_to, wrong, unless}
use Rattle.op_manifest.specs.Checks.{Check, Row, field, may, must, worded, list, optional, table}
use Rattle.op_manifest.specs.Values.{text_of, text_in, items_in}
use Rattle.op_manifest.specs.Maps.{tags, map_in}
use Rattle.op_manifest.specs.Parts.{item_in}

-- the operator of a word
unfoldable pub operator_named : List ℕ → Option Operator
operator_named word =
    if bytes_eq word (codes "In") then Some In
    else if bytes_eq word (codes "NotIn") then Some NotIn
    else if bytes_eq word (codes "Exists") then Some Exists
    else if bytes_eq word (codes "DoesNotExist") then Some DoesNotExist
    else None

-- the word is an operator's
abbrev pub is_operator : List ℕ → Bool
is_operator word = is_some (operator_named word)

-- an operator
abbrev pub operator : Check
operator = worded BAD_CHOICE is_operator

-- the operator that a value is, or `Exists`
abbrev pub operator_of : Data → Operator
operator_of d = unwrap_or (option_and_then operator_named (as_str d)) Exists

-- the list has no item
abbrev pub is_empty : Items → Bool
is_empty no_items = true
is_empty (item d ds) = false

-- the value is a list without items
abbrev pub is_empty_list : Data → Bool
is_empty_list d = option_map_or is_empty (as_array d) false

-- the key of a tag
abbrev pub tag_key : Check
tag_key = worded BAD_LABEL is_tag_key

-- the value of a tag
abbrev pub tag_value : Check
tag_value = worded BAD_LABEL is_tag_value

-- the field `values` isn't there, or is a list without items
abbrev pub lacks_values : Data → Bool
lacks_values d = option_map_or is_empty_list (field (codes "values") d) true

-- the values of `In` and `NotIn`: a list with an item, each item the value of a tag
abbrev pub some_values : Check
some_values path d =
    unless (not (lacks_values d)) MISSING (path_to path (codes "values")) ++ optional (list tag_value) (codes "values") path d

-- a list without items, which aren't looked at
unfoldable pub empty_list : Check
empty_list path d = option_map_or (λ ds. unless (is_empty ds) UNKNOWN_FIELD path) (as_array d) (wrong WRONG_TYPE path)

-- the values beside an operator: `Exists` and `DoesNotExist` have none; without an operator they aren't looked at
abbrev pub values_beside : Option Operator → Check
values_beside (Some In) path d = some_values path d
values_beside (Some NotIn) path d = some_values path d
values_beside (Some Exists) path d = optional empty_list (codes "values") path d
values_beside (Some DoesNotExist) path d = optional empty_list (codes "values") path d
values_beside None path d = []

-- the operator of an expression
abbrev pub operator_in : Data → Option Operator
operator_in d = item_in operator_of (codes "operator") d

-- the row of `values`
abbrev pub values_row : Row
values_row = record { name = codes "values"; wrongs = λ path d. values_beside (operator_in d) path d }

-- the fields of an expression
abbrev pub expression_rows : List Row
expression_rows =
    must (codes "key") tag_key
    ∷ must (codes "operator") operator
    ∷ values_row
    ∷ []

-- an operator on a key and values
abbrev pub asked_by : Operator → List ℕ → List (List ℕ) → Requirement
asked_by In key values = requirement.In key values
asked_by NotIn key values = requirement.NotIn key values
asked_by Exists key values = requirement.Exists key
asked_by DoesNotExist key values = requirement.Absent key

-- what an expression asks
unfoldable pub requirement_of : Data → Requirement
requirement_of d =
    asked_by (unwrap_or (operator_in d) Exists) (unwrap_or (text_in (codes "key") d) [])
    (unwrap_or (items_in text_of (codes "values") d) [])

-- the fields of a selector
abbrev pub selector_rows : List Row
selector_rows =
    may (codes "matchLabels") tags
    ∷ may (codes "matchExpressions") (list (table expression_rows))
    ∷ []

-- a selector
abbrev pub selector : Check
selector = table selector_rows

-- a pair asks that its key has its value
abbrev pub is_pair : List ℕ × List ℕ → Requirement
is_pair pair = requirement.Is pair.0 pair.1

-- the selector that a value is: the pairs in the order of their keys, then the expressions in theirs
unfoldable pub selector_of : Data → Selector
selector_of d = record {
  all = map is_pair (unwrap_or (map_in (codes "matchLabels") d) [])
      ++ unwrap_or (items_in requirement_of (codes "matchExpressions") d) [];
}

-- the selector of a field
abbrev pub selector_in : List ℕ → Data → Option Selector
selector_in = item_in selector_of
