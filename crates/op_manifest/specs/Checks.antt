-- What is wrong with a value: the list of all its breaches in reading order. A table is a list of rows, one for each
-- field, in the order in which they are read; on entering an object its unknown fields come first. A field that is
-- null counts as absent, under whatever name.
use Rattle.std.specs.Prelude.{ℕ, ◌+◌, Bool, ◌||◌, ◌==◌, length, List, [], ◌∷◌, ◌++◌, Option, Some, None, option_and_then, map, is_some, is_ok, nat_le, if◌then◌else◌}
use Rattle.std.specs.Option.{option_map_or}
use Rattle.std.specs.List.{slice_split}
use Rattle.serde_json.specs.Data.{Data, Num, Items, no_items, item, Members, no_members, member}
use Rattle.serde_json.specs.Find.{get, as_str, as_bool, as_number, as_array, as_object, as_u64}
use Rattle.op_base.specs.Spans.{span_read}
use Rattle.op_base.specs.declared.moment.TheConstants.{LAST_MOMENT}
use Rattle.op_json.specs.Reading.{is_null, may_stand}
use Rattle.op_manifest.specs.declared.shape.Shape.{Shape}
use Rattle.op_manifest.specs.declared.shape.ShapeRule.{ShapeRule}
use Rattle.op_manifest.specs.declared.shape.TheConstants.ShapeRule.{WRONG_TYPE, MISSING, UNKNOWN_FIELD, BAD_SPAN, BAD_NUMBER}
use Rattle.op_manifest.specs.Shapes.{path_to, path_at, wrong, unless}

-- all that is wrong with a value at a path
abbrev pub Check : Type 0
Check = List ℕ → Data → List Shape

-- a field, and all that is wrong with it in an object at a path
pub record Row : Type 0 where
  pub name : List ℕ
  pub wrongs : Check

-- the value, where it isn't null
abbrev pub given : Data → Option Data
given d = if is_null d then None else Some d

-- the value of the object's field, where it isn't null
abbrev pub field : List ℕ → Data → Option Data
field name d = option_and_then given (get name d)

-- any value
abbrev pub anything : Check
anything path d = []

-- a text
unfoldable pub text : Check
text path d = option_map_or (λ t. []) (as_str d) (wrong WRONG_TYPE path)

-- a text that passes the test, or else breaks the rule
unfoldable pub worded : ShapeRule → (List ℕ → Bool) → Check
worded rule passes path d = option_map_or (λ t. unless (passes t) rule path) (as_str d) (wrong WRONG_TYPE path)

-- true or false
unfoldable pub flag : Check
flag path d = option_map_or (λ b. []) (as_bool d) (wrong WRONG_TYPE path)

-- the number, where it is whole and from 0 to 2^53
abbrev pub number_within : Num → Option ℕ
number_within n = option_and_then (λ whole. if nat_le whole LAST_MOMENT then Some whole else None) (as_u64 n)

-- a whole number from 0 to 2^53
unfoldable pub whole : Check
whole path d = option_map_or (λ n. unless (is_some (number_within n)) BAD_NUMBER path) (as_number d) (wrong WRONG_TYPE path)

-- a text that is empty or a span
abbrev pub is_span_or_empty : List ℕ → Bool
is_span_or_empty text = length text == 0 || is_ok (span_read text)

-- a span; an empty text counts as absent
abbrev pub span : Check
span = worded BAD_SPAN is_span_or_empty

-- the items of a list, the first of these having that number
abbrev pub items_from : Check → List ℕ → ℕ → Items → List Shape
items_from check path index no_items = []
items_from check path index (item d ds) = check (path_at path index) d ++ items_from check path (index + 1) ds

-- a list, item by item
unfoldable pub list : Check → Check
list check path d = option_map_or (items_from check path 0) (as_array d) (wrong WRONG_TYPE path)

-- one entry of a map: the key's form, then the value. An entry that is null is no entry.
abbrev pub entry_wrongs : (List ℕ → Bool) → ShapeRule → Check → List ℕ → List ℕ → Data → List Shape
entry_wrongs is_key rule check path key d =
    if is_null d then [] else unless (is_key key) rule (path_to path key) ++ check (path_to path key) d

-- the entries of a map, in the order of their keys
abbrev pub entries_wrongs : (List ℕ → Bool) → ShapeRule → Check → List ℕ → Members → List Shape
entries_wrongs is_key rule check path no_members = []
entries_wrongs is_key rule check path (member key d ms) =
    entry_wrongs is_key rule check path key d ++ entries_wrongs is_key rule check path ms

-- a map, entry by entry
unfoldable pub keyed : (List ℕ → Bool) → ShapeRule → Check → Check
keyed is_key rule check path d = option_map_or (entries_wrongs is_key rule check path) (as_object d) (wrong WRONG_TYPE path)

-- a field that may be absent
unfoldable pub optional : Check → List ℕ → Check
optional check name path d = option_map_or (check (path_to path name)) (field name d) []

-- a field that has to stand
unfoldable pub required : Check → List ℕ → Check
required check name path d = option_map_or (check (path_to path name)) (field name d) (wrong MISSING (path_to path name))

-- the row of a field that may be absent
abbrev pub may : List ℕ → Check → Row
may name check = record { name = name; wrongs = optional check name }

-- the row of a field that has to stand
abbrev pub must : List ℕ → Check → Row
must name check = record { name = name; wrongs = required check name }

-- the row of a field that is passed over
abbrev pub ignored : List ℕ → Row
ignored name = record { name = name; wrongs = anything }

-- the members with none of the names, in the order of theirs
abbrev pub strays : List (List ℕ) → List ℕ → Members → List Shape
strays names path no_members = []
strays names path (member name d ms) = unless (may_stand names name d) UNKNOWN_FIELD (path_to path name) ++ strays names path ms

-- an object whose fields all have one of the names
unfoldable pub known : List (List ℕ) → Check
known names path d = option_map_or (strays names path) (as_object d) (wrong WRONG_TYPE path)

-- a space
abbrev pub is_space : ℕ → Bool
is_space b = b == 32

-- the names in a text, with a space between two
abbrev pub names_in : List ℕ → List (List ℕ)
names_in text = slice_split is_space text

-- one row after the other
abbrev pub rows_wrongs : List Row → Check
rows_wrongs [] path d = []
rows_wrongs (row ∷ rows) path d = row.wrongs path d ++ rows_wrongs rows path d

-- an object with these fields and no other
unfoldable pub table : List Row → Check
table rows path d = known (map (λ (row : Row). row.name) rows) path d ++ rows_wrongs rows path d
