-- JSON values without floats, and the text that is written for them: compact, with the fields of
-- an object in the byte order of their names.
use Rattle.std.specs.Prelude.{ℕ, ℤ, pos, negsuc, Bool, List, [], ◌∷◌, Option, Some, None}
use Rattle.serde_json.specs.Data.{Data, Items, no_items, item, Members, no_members, unsigned, negative, put}
use Rattle.serde_json.specs.Data as data_kind
use Rattle.serde_json.specs.Written.{compact_text}

mutual
  pub data Json : Type 0 where
    null : Json
    flag : Bool → Json
    whole : ℤ → Json
    text : List ℕ → Json
    array : Elements → Json
    object : Fields → Json

  pub data Elements : Type 0 where
    none : Elements
    element : Json → Elements → Elements

  pub data Fields : Type 0 where
    no_fields : Fields
    field : List ℕ → Json → Fields → Fields

-- a whole number as it is kept
abbrev pub whole_data : ℤ → Data
whole_data (pos n) = data_kind.number (unsigned n)
whole_data (negsuc n) = data_kind.number (negative (negsuc n))

-- the value of `serde_json` that it is; fields are put one after the other, later over earlier
abbrev mutual
  pub data_of : Json → Data
  data_of null = data_kind.null
  data_of (flag b) = data_kind.boolean b
  data_of (whole z) = whole_data z
  data_of (text t) = data_kind.string t
  data_of (array js) = data_kind.array (items_of js)
  data_of (object fs) = data_kind.object (members_after no_members fs)

  pub items_of : Elements → Items
  items_of none = no_items
  items_of (element j js) = item (data_of j) (items_of js)

  pub members_after : Members → Fields → Members
  members_after ms no_fields = ms
  members_after ms (field name j fs) = members_after (put name (data_of j) ms) fs

-- the text that is written
abbrev pub json_text : Json → List ℕ
json_text j = compact_text (data_of j)

-- an array of the list's values
abbrev pub elements_of : List Json → Elements
elements_of [] = none
elements_of (j ∷ js) = element j (elements_of js)

-- an array of these values
abbrev pub array_of : List Json → Json
array_of js = array (elements_of js)

-- an object of the list's fields
abbrev pub fields_of : List (List ℕ × Json) → Fields
fields_of [] = no_fields
fields_of (f ∷ fs) = field f.0 f.1 (fields_of fs)

-- an object of these fields
abbrev pub object_of : List (List ℕ × Json) → Json
object_of fields = object (fields_of fields)

-- a field that is there only where there is a value
abbrev pub given : List ℕ → Option Json → List (List ℕ × Json)
given name None = []
given name (Some j) = (name, j) ∷ []
