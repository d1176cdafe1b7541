-- Files of manifests: each is one manifest, or a list of them.
use Rattle.std.specs.Prelude.{ℕ, Bool, false, ◌&&◌, List, [], ◌∷◌, option_and_then, unwrap_or, is_some, codes, if◌then◌else◌}
use Rattle.std.specs.Option.{option_map_or}
use Rattle.serde_json.specs.Data.{Data, null}
use Rattle.serde_json.specs.Find.{as_str, as_array}
use Rattle.op_json.specs.Reading.{is_text, json_of}
use Rattle.op_manifest.specs.declared.shape.Shape.{Shape}
use Rattle.op_manifest.specs.declared.shape.TheConstants.ShapeRule.{NOT_JSON, WRONG_TYPE}
use Rattle.op_manifest.specs.Checks.{Check, Row, field, ignored, must, table}
use Rattle.op_manifest.specs.Shapes.{wrong, unless}
use Rattle.op_manifest.specs.Values.{each_of}

-- bytes have to be JSON
abbrev pub json_wrongs : List ℕ → List Shape
json_wrongs bytes = unless (is_some (json_of bytes)) NOT_JSON []

-- the value that bytes are, or null where they aren't JSON
abbrev pub json_in : List ℕ → Data
json_in bytes = unwrap_or (json_of bytes) null

-- the field is this text
abbrev pub has_text : List ℕ → List ℕ → Data → Bool
has_text name text d = option_map_or (λ other. is_text other text) (option_and_then as_str (field name d)) false

-- a list of manifests: its kind is List, and its apiVersion v1. With another apiVersion it is one manifest.
unfoldable pub is_list : Data → Bool
is_list d = has_text (codes "kind") (codes "List") d && has_text (codes "apiVersion") (codes "v1") d

-- a list, whatever its items are
unfoldable pub sequence : Check
sequence path d = option_map_or (λ items. []) (as_array d) (wrong WRONG_TYPE path)

-- the fields of a list of manifests
abbrev pub list_rows : List Row
list_rows =
    ignored (codes "apiVersion")
    ∷ ignored (codes "kind")
    ∷ ignored (codes "metadata")
    ∷ must (codes "items") sequence
    ∷ []

-- what is wrong with a list of manifests itself. What is wrong with one manifest is told when it is read.
abbrev pub file_wrongs : Data → List Shape
file_wrongs d = if is_list d then table list_rows [] d else []

-- a value as it is
abbrev pub same : Data → Data
same d = d

-- the items of a list of manifests
unfoldable pub listed : Data → List Data
listed d = option_map_or (each_of same) (option_and_then as_array (field (codes "items") d)) []

-- the manifests
abbrev pub file_items : Data → List Data
file_items d = if is_list d then listed d else d ∷ []

-- what is wrong with the bytes of a file
abbrev pub items_wrongs : List ℕ → List Shape
items_wrongs bytes = option_map_or file_wrongs (json_of bytes) (wrong NOT_JSON [])

-- the manifests of a file's bytes
abbrev pub items_of : List ℕ → List Data
items_of bytes = option_map_or file_items (json_of bytes) []
