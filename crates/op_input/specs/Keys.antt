-- The key of a line: the one field of an object. A field that is null counts as absent, under whatever name.
use Rattle.std.specs.Prelude.{ℕ, List, Bool, Option, None, ◌||◌, if◌then◌else◌}
use Rattle.std.specs.List.{list_all}
use Rattle.serde_json.specs.Data.{Data}
use Rattle.op_json.specs.Reading.{is_null, is_text}
use Rattle.op_manifest.specs.Checks.{field}
use Rattle.op_manifest.specs.Trees.{name_of, value_of, named_parts}

-- a field that is null or has the name
abbrev pub is_null_or : List ℕ → List ℕ × Data → Bool
is_null_or name part = is_null (value_of part) || is_text (name_of part) name

-- the value of the key, where no other field stands
unfoldable pub only_field : List ℕ → Data → Option Data
only_field name d = if list_all (is_null_or name) (named_parts d) then field name d else None
