-- Relabelling steps as a manifest writes them, after the type RelabelConfig of `monitoring.coreos.com/v1`. Whether a step
-- can be run is no matter of shape.
use Rattle.std.specs.Char.{to_ascii_lowercase}
use Rattle.std.specs.Prelude.{ℕ, Bool, List, [], ◌∷◌, codes, bytes_eq, map, Option, Some, None, option_and_then, unwrap_or, is_some, if◌then◌else◌}
use Rattle.serde_json.specs.Data.{Data}
use Rattle.op_manifest.specs.declared.shape.TheConstants.ShapeRule.{BAD_CHOICE}
use Rattle.op_manifest.specs.Checks.{Check, Row, may, text, whole, worded, list, table}
use Rattle.op_manifest.specs.Values.{text_of, text_in, number_in, items_in}
use Rattle.op_relabel.specs.declared.step.Action.{Action}
use Rattle.op_relabel.specs.declared.step.Action.TheVariants.{Replace, Keep, Drop, KeepEqual, DropEqual, HashMod, LabelMap, LabelDrop, LabelKeep, Lowercase, Uppercase}
use Rattle.op_relabel.specs.declared.step.Step.{Step}
use Rattle.op_relabel.specs.Steps.{default_separator, default_pattern, default_replacement, default_modulus}

-- the word, in any case of its letters
abbrev pub is_word : List ℕ → List ℕ → Bool
is_word text word = bytes_eq (map to_ascii_lowercase text) (map to_ascii_lowercase word)

-- the action of a word that drops label sets or labels, or chooses these by their names
unfoldable pub choosing_named : List ℕ → Option Action
choosing_named text =
    if is_word text (codes "keepequal") then Some KeepEqual
    else if is_word text (codes "dropequal") then Some DropEqual
    else if is_word text (codes "labelmap") then Some LabelMap
    else if is_word text (codes "labeldrop") then Some LabelDrop
    else if is_word text (codes "labelkeep") then Some LabelKeep
    else None

-- the action of a word
unfoldable pub action_named : List ℕ → Option Action
action_named text =
    if is_word text (codes "replace") then Some Replace
    else if is_word text (codes "keep") then Some Keep
    else if is_word text (codes "drop") then Some Drop
    else if is_word text (codes "hashmod") then Some HashMod
    else if is_word text (codes "lowercase") then Some Lowercase
    else if is_word text (codes "uppercase") then Some Uppercase
    else choosing_named text

-- the word is an action's
abbrev pub is_action : List ℕ → Bool
is_action text = is_some (action_named text)

-- the fields of a step
abbrev pub step_rows : List Row
step_rows =
    may (codes "sourceLabels") (list text)
    ∷ may (codes "separator") text
    ∷ may (codes "targetLabel") text
    ∷ may (codes "regex") text
    ∷ may (codes "modulus") whole
    ∷ may (codes "replacement") text
    ∷ may (codes "action") (worded BAD_CHOICE is_action)
    ∷ []

-- a step
abbrev pub step : Check
step = table step_rows

-- the action of a word that may be absent
abbrev pub action_or_replace : Option (List ℕ) → Action
action_or_replace word = unwrap_or (option_and_then action_named word) Replace

-- the step that a value is, with the defaults of relabelling
unfoldable pub step_of : Data → Step
step_of d =
    record {
      action = action_or_replace (text_in (codes "action") d);
      source = unwrap_or (items_in text_of (codes "sourceLabels") d) [];
      separator = unwrap_or (text_in (codes "separator") d) default_separator;
      pattern = unwrap_or (text_in (codes "regex") d) default_pattern;
      replacement = unwrap_or (text_in (codes "replacement") d) default_replacement;
      target = unwrap_or (text_in (codes "targetLabel") d) [];
      modulus = unwrap_or (number_in (codes "modulus") d) default_modulus;
    }

-- steps, one after the other
abbrev pub steps : Check
steps = list step

-- the steps of a field
abbrev pub steps_in : List ℕ → Data → List Step
steps_in name d = unwrap_or (items_in step_of name d) []
