-- Deletions: the kind, the namespace and the name of the object that goes.
use Rattle.std.specs.Prelude.{ℕ, Bool, List, [], ◌∷◌, codes, is_none, is_some}
use Rattle.serde_json.specs.Data.{Data}
use Rattle.op_base.specs.declared.key.Key.{Key}
use Rattle.op_base.specs.Names.{is_name}
use Rattle.op_manifest.specs.declared.shape.TheConstants.ShapeRule.{BAD_NAME}
use Rattle.op_manifest.specs.Checks.{Row, must, worded, rows_wrongs, table}
use Rattle.op_manifest.specs.Heads.{kind_named, kind_of, key_in, naming, namespace_wrongs}
use Rattle.op_manifest.specs.Shapes.{first}
use Rattle.op_input.specs.Events.{Event, delete, refused_delete, judged}

-- the name is a kind's
abbrev pub is_kind : List ℕ → Bool
is_kind name = is_some (kind_named name)

-- the kind, which has to be named
abbrev pub kind_row : Row
kind_row = record { name = codes "kind"; wrongs = naming is_kind (codes "kind") }

-- the namespace; that of a Namespace isn't looked at
abbrev pub namespace_row : Row
namespace_row = record { name = codes "namespace"; wrongs = λ path d. namespace_wrongs (kind_of d) path d }

-- the fields of a deletion
abbrev pub delete_rows : List Row
delete_rows =
    kind_row
    ∷ namespace_row
    ∷ must (codes "name") (worded BAD_NAME is_name)
    ∷ []

-- the key of the object: without a namespace it is in `default`, and a Namespace is in none
abbrev pub deleted_key : Data → Key
deleted_key d = key_in (kind_of d) d

-- no field of the key has a breach
abbrev pub names_object : Data → Bool
names_object d = is_none (first (rows_wrongs delete_rows [] d))

-- the deletion, or its first breach
abbrev pub delete_of : Data → Event
delete_of d =
    judged (delete (deleted_key d)) (refused_delete (deleted_key d)) (names_object d) (first (table delete_rows [] d))
