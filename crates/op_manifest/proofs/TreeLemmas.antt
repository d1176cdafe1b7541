-- Trees and the values that `serde_json` read.
use Rattle.std.proofs.Common.{◌∙◌, rules, ap, sym, append-nil}
use Rattle.std.proofs.lemmas.Option.{slice_get-map}
use Rattle.std.proofs.lemmas.List.{length-map}
use Rattle.std.specs.Option.{option_map_or}
use Rattle.serde_json.specs.Find.{as_array, as_object}
use Rattle.std.specs.Prelude.{ℕ, ◌++◌, List, [], ◌∷◌, ◌≡◌, length, map, slice_get, Option, Some, None, option_map, String, string_bytes}
use Rattle.std.specs.declared.alloc.Global.{Global}
use Rattle.serde_json.specs.View.{view, members_view}
use Rattle.serde_json.specs.declared.value.Value.{Value}
use Rattle.serde_json.specs.Data.{Data, null, boolean, number, string, array, object, Num, unsigned, negative, float, no_members, member}
use Rattle.op_manifest.specs.declared.tree.Form.TheVariants as form
use Rattle.op_manifest.specs.Trees.{data_of, form_of, form_of_number, members_from, members_in, items_in, member_seen, field_seen, each_item, each_member, name_of, value_of, named_parts, parts_of}
use Rattle.op_manifest.specs.declared.tree.Tree.{Tree, the_lemmas}
use Rattle.op_manifest.specs.declared.tree.Tree.TheVariants as tree

-- the members of an object are those of its fields
pub members_as_read : (ms : List (String Global × Value))
    → members_from (map member_seen ms) ≡ members_view ms
members_as_read [] = λ i. no_members
members_as_read (m ∷ ms) = ap (member (string_bytes m.0) (view m.1)) (members_as_read ms)

-- the fields that were read of all members are those of the object
pub fields_are_members : (fields : List (List ℕ × Tree)) (ms left : List (String Global × Value))
    → map member_seen ms ≡ map field_seen fields ++ map member_seen left → left ≡ [] → members_in fields ≡ members_view ms
fields_are_members fields ms left read none =
    ap members_from (sym (read ∙ ap (λ l. map field_seen fields ++ map member_seen l) none ∙ append-nil (map field_seen fields)))
    ∙ members_as_read ms

-- an object is its fields
pub data-Fields : (fields : List (List ℕ × Tree)) → data_of (tree.Fields fields) ≡ object (members_in fields)
data-Fields fields = search (rules, the_lemmas)

-- a list is its items
pub data-Items : (trees : List Tree) → data_of (tree.Items trees) ≡ array (items_in trees)
data-Items trees = search (rules, the_lemmas)

-- null is null
pub data-Null : data_of tree.Null ≡ null
data-Null = search (rules, the_lemmas)

-- the trees of a list are its items
pub items_are_parts : (trees : List Tree) → each_item (items_in trees) ≡ map data_of trees
items_are_parts [] = λ i. []
items_are_parts (tree ∷ trees) = ap (λ ds. data_of tree ∷ ds) (items_are_parts trees)

-- the fields of an object, with their trees seen as values
pub fields_are_named : (fields : List (List ℕ × Tree)) → each_member (members_in fields) ≡ map field_seen fields
fields_are_named [] = λ i. []
fields_are_named (field ∷ fields) = ap (λ parts. field_seen field ∷ parts) (fields_are_named fields)

-- a field that was found, with its tree seen as a value
value_seen : (field : Option (List ℕ × Tree)) → option_map value_of (option_map field_seen field) ≡ option_map (λ field. data_of field.1) field
value_seen None = λ i. None
value_seen (Some field) = λ i. Some (data_of field.1)

-- its name
name_seen : (field : Option (List ℕ × Tree)) → option_map name_of (option_map field_seen field) ≡ option_map (λ field. field.0) field
name_seen None = λ i. None
name_seen (Some field) = λ i. Some field.0

-- what a list has at a place
pub part_of_items : (d : Data) (trees : List Tree) (i : ℕ) → Some (items_in trees) ≡ as_array d → slice_get (parts_of d) i ≡ option_map data_of (slice_get trees i)
unfolding parts_of
part_of_items d trees i is =
    ap (λ items. slice_get (option_map_or each_item items (map value_of (named_parts d))) i) (sym is)
    ∙ ap (λ parts. slice_get parts i) (items_are_parts trees) ∙ slice_get-map data_of trees i

-- what the fields of an object are
parts_of_fields : (d : Data) (fields : List (List ℕ × Tree)) → None ≡ as_array d → Some (members_in fields) ≡ as_object d
    → parts_of d ≡ map value_of (map field_seen fields)
unfolding parts_of named_parts
parts_of_fields d fields none is =
    ap (λ items. option_map_or each_item items (map value_of (named_parts d))) (sym none)
    ∙ ap (λ members. map value_of (option_map_or each_member members [])) (sym is)
    ∙ ap (map value_of) (fields_are_named fields)

-- what an object has at a place
pub part_of_fields : (d : Data) (fields : List (List ℕ × Tree)) (i : ℕ) → None ≡ as_array d → Some (members_in fields) ≡ as_object d
    → slice_get (parts_of d) i ≡ option_map (λ field. data_of field.1) (slice_get fields i)
part_of_fields d fields i none is =
    ap (λ parts. slice_get parts i) (parts_of_fields d fields none is)
    ∙ slice_get-map value_of (map field_seen fields) i ∙ ap (option_map value_of) (slice_get-map field_seen fields i) ∙ value_seen (slice_get fields i)

-- anything else has nothing
pub no_parts : (d : Data) → None ≡ as_array d → None ≡ as_object d → parts_of d ≡ []
unfolding parts_of named_parts
no_parts d none no_object =
    ap (λ items. option_map_or each_item items (map value_of (named_parts d))) (sym none)
    ∙ ap (λ members. map value_of (option_map_or each_member members [])) (sym no_object)

-- the name of an object's field at a place
pub name_of_field : (d : Data) (fields : List (List ℕ × Tree)) (i : ℕ) → Some (members_in fields) ≡ as_object d
    → slice_get (map name_of (named_parts d)) i ≡ option_map (λ field. field.0) (slice_get fields i)
unfolding named_parts
name_of_field d fields i is =
    ap (λ members. slice_get (map name_of (option_map_or each_member members [])) i) (sym is)
    ∙ ap (λ parts. slice_get (map name_of parts) i) (fields_are_named fields)
    ∙ slice_get-map name_of (map field_seen fields) i ∙ ap (option_map name_of) (slice_get-map field_seen fields i) ∙ name_seen (slice_get fields i)

-- anything else has no names
pub no_names : (d : Data) → None ≡ as_object d → named_parts d ≡ []
unfolding named_parts
no_names d none = ap (λ members. option_map_or each_member members []) (sym none)

-- as many parts as trees
pub len_of_items : (d : Data) (trees : List Tree) → Some (items_in trees) ≡ as_array d → length trees ≡ length (parts_of d)
unfolding parts_of
len_of_items d trees is =
    sym (ap (λ items. length (option_map_or each_item items (map value_of (named_parts d)))) (sym is)
    ∙ ap length (items_are_parts trees) ∙ length-map trees data_of)

-- as many parts as fields
pub len_of_fields : (d : Data) (fields : List (List ℕ × Tree)) → None ≡ as_array d → Some (members_in fields) ≡ as_object d → length fields ≡ length (parts_of d)
len_of_fields d fields none is =
    sym (ap length (parts_of_fields d fields none is) ∙ length-map (map field_seen fields) value_of ∙ length-map fields field_seen)

-- no number is an object
no_fields_of : (n : Num) → form_of_number n ≡ form.Fields → ⊥
no_fields_of (unsigned n) is = cc
no_fields_of (negative z) is = cc
no_fields_of (float x) is = cc

-- an object has as many names as parts
pub names_of_fields : (d : Data) → form_of d ≡ form.Fields → length (parts_of d) ≡ length (map name_of (named_parts d))
unfolding parts_of named_parts
names_of_fields null is = cc
names_of_fields (boolean b) is = cc
names_of_fields (number n) is = absurd (no_fields_of n is)
names_of_fields (string t) is = cc
names_of_fields (array ds) is = cc
names_of_fields (object ms) is = length-map (each_member ms) value_of ∙ sym (length-map (each_member ms) name_of)
