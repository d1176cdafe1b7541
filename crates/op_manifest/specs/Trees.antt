-- JSON trees (RFC 8259), as the values that `serde_json` states.
use Rattle.std.specs.Prelude.{ℕ, ℤ, pos, List, [], ◌∷◌, map, option_and_then, unwrap_or, String, string_bytes}
use Rattle.std.specs.Option.{option_map_or}
use Rattle.std.specs.declared.alloc.Global.{Global}
use Rattle.serde_json.specs.Data.{Data, null, boolean, number, string, array, object, Num, unsigned, negative, float, Items, no_items, item, Members, no_members, member}
use Rattle.serde_json.specs.Find.{as_str, as_number, as_array, as_object, as_integer}
use Rattle.serde_json.specs.View.{number_view, items_of, view}
use Rattle.serde_json.specs.declared.value.Value.{Value}
use Rattle.op_manifest.specs.declared.tree.Form.{Form}
use Rattle.op_manifest.specs.declared.tree.Form.TheVariants as form
use Rattle.op_manifest.specs.declared.tree.Tree.{Tree}
use Rattle.op_manifest.specs.declared.tree.Tree.TheOpen.{Tree-F}
use Rattle.op_manifest.specs.declared.tree.Tree.TheFolds.{fold-Tree}

-- the members of an object, in the order of its fields
abbrev pub members_from : List (List ℕ × Data) → Members
members_from [] = no_members
members_from (field ∷ fields) = member field.0 field.1 (members_from fields)

-- one level, with each tree inside already seen as its value
abbrev pub tree_step : Tree-F Data → Data
tree_step Tree-F.Null = null
tree_step (Tree-F.Flag flag) = boolean flag
tree_step (Tree-F.Number n) = number (number_view n)
tree_step (Tree-F.Words text) = string text
tree_step (Tree-F.Items items) = array (items_of items)
tree_step (Tree-F.Fields fields) = object (members_from fields)

-- the value that a tree is
abbrev pub data_of : Tree → Data
data_of = fold-Tree Data tree_step

-- the items of a list of trees
abbrev pub items_in : List Tree → Items
items_in trees = items_of (map data_of trees)

-- a field, with its tree seen as the value that it is
abbrev pub field_seen : List ℕ × Tree → List ℕ × Data
field_seen field = (field.0, data_of field.1)

-- the members of a list of fields
abbrev pub members_in : List (List ℕ × Tree) → Members
members_in fields = members_from (map field_seen fields)

-- a member that `serde_json` read, seen alike
abbrev pub member_seen : String Global × Value → List ℕ × Data
member_seen m = (string_bytes m.0, view m.1)

-- a number is whole where 64 bits hold it as it is written, without fraction and exponent
abbrev pub form_of_number : Num → Form
form_of_number (unsigned n) = form.Whole
form_of_number (negative z) = form.Whole
form_of_number (float x) = form.Number

-- what a value is
abbrev pub form_of : Data → Form
form_of null = form.Null
form_of (boolean b) = form.Flag
form_of (number n) = form_of_number n
form_of (string t) = form.Words
form_of (array ds) = form.Items
form_of (object ms) = form.Fields

-- the items of a list
abbrev pub each_item : Items → List Data
each_item no_items = []
each_item (item d ds) = d ∷ each_item ds

-- the fields of an object
abbrev pub each_member : Members → List (List ℕ × Data)
each_member no_members = []
each_member (member name d ms) = (name, d) ∷ each_member ms

-- the fields of an object, in the order of their names
unfoldable pub named_parts : Data → List (List ℕ × Data)
named_parts d = option_map_or each_member (as_object d) []

-- the name of a field
abbrev pub name_of : List ℕ × Data → List ℕ
name_of part = part.0

-- the value of a field
abbrev pub value_of : List ℕ × Data → Data
value_of part = part.1

-- the items of a list, or the values of an object's fields
unfoldable pub parts_of : Data → List Data
parts_of d = option_map_or each_item (as_array d) (map value_of (named_parts d))

-- the text that a value is, or the empty one
abbrev pub text_of : Data → List ℕ
text_of d = unwrap_or (as_str d) []

-- the number that a value is where it is whole, or 0
abbrev pub whole_of : Data → ℤ
whole_of d = unwrap_or (option_and_then as_integer (as_number d)) (pos 0)
