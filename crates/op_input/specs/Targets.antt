-- Targets: what is discovered in a namespace, as entries of Services' endpoints and of Pods.
use Rattle.std.specs.Prelude.{ℕ, Bool, List, [], ◌∷◌, ◌==◌, not, length, bytes_eq, codes, Option, Some, None, option_and_then, unwrap_or, is_none, is_some, if◌then◌else◌}
use Rattle.serde_json.specs.Data.{Data}
use Rattle.op_base.specs.Names.{is_namespace}
use Rattle.op_manifest.specs.declared.shape.TheConstants.ShapeRule.{BAD_NAME, BAD_CHOICE, MISSING}
use Rattle.op_manifest.specs.Checks.{Check, Row, may, must, text, worded, list, table}
use Rattle.op_manifest.specs.Maps.{tags, map_in}
use Rattle.op_manifest.specs.Shapes.{first}
use Rattle.op_manifest.specs.Values.{text_in, items_in}
use Rattle.srv_scrape.specs.declared.found.Found.{Found}
use Rattle.srv_scrape.specs.declared.found.Role.{Role}
use Rattle.srv_scrape.specs.declared.found.Role.TheVariants.{Endpoints, Pod}
use Rattle.op_input.specs.Events.{Event, targets, refused_targets, judged}

-- the role of a word
abbrev pub role_named : List ℕ → Option Role
role_named word =
    if bytes_eq word (codes "endpoints") then Some Endpoints
    else if bytes_eq word (codes "pod") then Some Pod
    else None

-- the word is a role's
abbrev pub is_role : List ℕ → Bool
is_role word = is_some (role_named word)

-- the text has a byte
abbrev pub is_filled : List ℕ → Bool
is_filled text = not (length text == 0)

-- a text that isn't empty; an empty one is missing
abbrev pub filled : Check
filled = worded MISSING is_filled

-- the fields of an entry
abbrev pub entry_rows : List Row
entry_rows =
    must (codes "role") (worded BAD_CHOICE is_role)
    ∷ must (codes "name") filled
    ∷ must (codes "address") filled
    ∷ may (codes "labels") tags
    ∷ may (codes "port") text
    ∷ may (codes "pod") text
    ∷ []

-- an entry
abbrev pub entry : Check
entry = table entry_rows

-- the role of a word; where none is named, which is a breach, any stands
abbrev pub role_of : Option (List ℕ) → Role
role_of word = unwrap_or (option_and_then role_named word) Endpoints

-- the text of a field, or the empty one
abbrev pub text_or_empty : List ℕ → Data → List ℕ
text_or_empty name d = unwrap_or (text_in name d) []

-- the entry
unfoldable pub entry_of : Data → Found
entry_of d =
    record {
      role = role_of (text_in (codes "role") d);
      name = text_or_empty (codes "name") d;
      tags = unwrap_or (map_in (codes "labels") d) [];
      address = text_or_empty (codes "address") d;
      port = text_or_empty (codes "port") d;
      pod = text_or_empty (codes "pod") d;
    }

-- the namespace
abbrev pub namespace_row : Row
namespace_row = must (codes "namespace") (worded BAD_NAME is_namespace)

-- the fields of targets
abbrev pub targets_rows : List Row
targets_rows = namespace_row ∷ must (codes "set") (list entry) ∷ []

-- their namespace
abbrev pub targets_namespace : Data → List ℕ
targets_namespace d = text_or_empty (codes "namespace") d

-- their entries
abbrev pub targets_found : Data → List Found
targets_found d = unwrap_or (items_in entry_of (codes "set") d) []

-- the namespace has no breach
abbrev pub names_namespace : Data → Bool
names_namespace d = is_none (first (namespace_row.wrongs [] d))

-- the targets, or their first breach
abbrev pub targets_of : Data → Event
targets_of d =
    judged (targets (targets_namespace d) (targets_found d)) (refused_targets (targets_namespace d)) (names_namespace d)
    (first (table targets_rows [] d))
