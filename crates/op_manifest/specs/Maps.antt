-- Maps of texts, as the tags that they are: finite maps from keys to texts that may be empty. An entry that is null is
-- no entry.
use Rattle.std.specs.Prelude.{ℕ, Bool, true, List, [], ◌∷◌, ◌++◌, Option, option_and_then, option_map}
use Rattle.std.specs.Option.{option_map_or}
use Rattle.serde_json.specs.Data.{Data, Members, no_members, member}
use Rattle.serde_json.specs.Find.{as_str, as_object}
use Rattle.op_base.specs.Labels.{Texts}
use Rattle.op_base.specs.Maps.{text_cmp, in_order}
use Rattle.op_base.specs.Names.{is_label_name}
use Rattle.op_base.specs.Tags.{is_tag_key, is_tag_value}
use Rattle.op_manifest.specs.declared.shape.ShapeRule.{ShapeRule}
use Rattle.op_manifest.specs.declared.shape.TheConstants.ShapeRule.{BAD_LABEL}
use Rattle.op_manifest.specs.Checks.{Check, field, worded, keyed}

-- any text
abbrev pub is_any : List ℕ → Bool
is_any text = true

-- a map whose keys and whose texts pass a test each, or else break a rule each
abbrev pub texts_by : (List ℕ → Bool) → ShapeRule → (List ℕ → Bool) → ShapeRule → Check
texts_by is_key key_rule is_value value_rule = keyed is_key key_rule (worded value_rule is_value)

-- a map of any texts
abbrev pub texts : Check
texts = texts_by is_any BAD_LABEL is_any BAD_LABEL

-- the labels of a Kubernetes object
abbrev pub tags : Check
tags = texts_by is_tag_key BAD_LABEL is_tag_value BAD_LABEL

-- a map of label names to any texts
abbrev pub labels : Check
labels = texts_by is_label_name BAD_LABEL is_any BAD_LABEL

-- the entry of a key, where its value is a text
abbrev pub entry_of : List ℕ → Data → Texts
entry_of key d = option_map_or (λ text. (key, text) ∷ []) (as_str d) []

-- the entries of members
abbrev pub entries_of : Members → Texts
entries_of no_members = []
entries_of (member key d ms) = entry_of key d ++ entries_of ms

-- the map of members
abbrev pub map_of : Members → Texts
map_of ms = in_order text_cmp (entries_of ms)

-- the map that a value is; what is no object has no entry
unfoldable pub texts_of : Data → Texts
texts_of d = option_map_or map_of (as_object d) []

-- the map of a field
unfoldable pub map_in : List ℕ → Data → Option Texts
map_in name d = option_map map_of (option_and_then as_object (field name d))
