-- Tables of objects that may have further fields, which are passed over. Some fields that would change what the object
-- means may not stand: these count as unknown ones, and so they are looked for before all others.
use Rattle.std.specs.Prelude.{ℕ, not, List, [], is_some}
use Rattle.op_manifest.specs.declared.shape.TheConstants.ShapeRule.{UNKNOWN_FIELD}
use Rattle.op_manifest.specs.Checks.{Check, Row, field}
use Rattle.op_manifest.specs.Heads.{object}
use Rattle.op_manifest.specs.Shapes.{path_to, unless}

-- a field that may not stand
unfoldable pub barred : List ℕ → Check
barred name path d = unless (not (is_some (field name d))) UNKNOWN_FIELD (path_to path name)

-- its row
abbrev pub never : List ℕ → Row
never name = record { name = name; wrongs = barred name }

-- the value itself, which has to be an object: the first row of such a table
abbrev pub an_object : Row
an_object = record { name = []; wrongs = object }
