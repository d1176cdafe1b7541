-- JSON that is read (RFC 8259): the value that bytes are, and which members an object may have. A member
-- that is null counts as absent, under whatever name.
use Rattle.std.specs.Prelude.{ℕ, List, Bool, Option, Some, None, ◌==◌, ◌||◌, is_some, if◌then◌else◌}
use Rattle.std.specs.List.{list_any}
use Rattle.std.specs.Str.{is_utf8}
use Rattle.std.specs.Cmp.Lexicographic.{pointwise}
use Rattle.serde_json.specs.Data.{Data, Members, no_members, member}
use Rattle.serde_json.specs.Find.{as_null}
use Rattle.serde_json.specs.Read.{read}

-- the JSON value that bytes are, if they are UTF-8 and JSON
abbrev pub json_of : List ℕ → Option Data
json_of bytes = if is_utf8 bytes then read bytes else None

-- both texts are the same
abbrev pub is_text : List ℕ → List ℕ → Bool
is_text these those = pointwise ◌==◌ these those

-- the value is null
abbrev pub is_null : Data → Bool
is_null d = is_some (as_null d)

-- a member may stand where it is null or has one of the names
abbrev pub may_stand : List (List ℕ) → List ℕ → Data → Bool
may_stand names name d = is_null d || list_any (is_text name) names

-- the name of the first member that may not stand
abbrev pub stray : List (List ℕ) → Members → Option (List ℕ)
stray names no_members = None
stray names (member name d ms) = if may_stand names name d then stray names ms else Some name
