-- References to a key of a Secret, after the type SecretKeySelector of Kubernetes. One without a name counts as absent.
use Rattle.std.specs.Prelude.{ℕ, ◌==◌, List, [], ◌∷◌, ◌++◌, length, codes, Option, Some, None, option_and_then, unwrap_or, is_some, if◌then◌else◌}
use Rattle.serde_json.specs.Data.{Data}
use Rattle.op_manifest.specs.declared.reference.SecretRef.{SecretRef}
use Rattle.op_manifest.specs.declared.shape.TheConstants.ShapeRule.{MISSING}
use Rattle.op_manifest.specs.Shapes.{path_to, unless}
use Rattle.op_manifest.specs.Checks.{Check, Row, field, may, ignored, text, optional, table}
use Rattle.op_manifest.specs.Values.{text_in}

-- the fields of a reference: `optional` is passed over
abbrev pub reference_rows : List Row
reference_rows =
    may (codes "name") text
    ∷ may (codes "key") text
    ∷ ignored (codes "optional")
    ∷ []

-- a reference
abbrev pub reference : Check
reference = table reference_rows

-- the reference by a name and a key: none without a name, or with an empty one; without a key the empty key
abbrev pub named : Option (List ℕ) → Option (List ℕ) → Option SecretRef
named None key = None
named (Some name) key = if length name == 0 then None else Some (record { name = name; key = unwrap_or key [] })

-- the reference that a value is, unless it counts as absent
unfoldable pub reference_of : Data → Option SecretRef
reference_of d = named (text_in (codes "name") d) (text_in (codes "key") d)

-- the reference of a field
unfoldable pub reference_in : List ℕ → Data → Option SecretRef
reference_in name d = option_and_then reference_of (field name d)

-- a field that has to hold a reference: one that counts as absent is missing, once it was read
unfoldable pub required_reference : List ℕ → Check
required_reference name path d =
    optional reference name path d ++ unless (is_some (reference_in name d)) MISSING (path_to path name)

-- the row of such a field
abbrev pub must_refer : List ℕ → Row
must_refer name = record { name = name; wrongs = required_reference name }
