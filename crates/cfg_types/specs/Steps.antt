-- The JSON of relabelling steps: the action, and of the other fields those that differ from the
-- defaults.
use Rattle.std.specs.Prelude.{ℕ, pos, List, [], ◌∷◌, ◌++◌, ◌==◌, map, codes, if◌then◌else◌}
use Rattle.op_json.specs.Json.{Json, text, whole, array_of, object_of}
use Rattle.op_relabel.specs.declared.step.Action.{Action}
use Rattle.op_relabel.specs.declared.step.Action.TheVariants.{Replace, Keep, Drop, KeepEqual, DropEqual, HashMod, LabelMap, LabelDrop, LabelKeep, Lowercase, Uppercase}
use Rattle.op_relabel.specs.declared.step.Step.{Step}
use Rattle.op_relabel.specs.Steps.{default_separator, default_pattern, default_replacement, default_modulus}
use Rattle.cfg_types.specs.Texts.{list_field, text_unless}

-- how an action is written
abbrev pub action_text : Action → List ℕ
action_text Replace = codes "replace"
action_text Keep = codes "keep"
action_text Drop = codes "drop"
action_text KeepEqual = codes "keepequal"
action_text DropEqual = codes "dropequal"
action_text HashMod = codes "hashmod"
action_text LabelMap = codes "labelmap"
action_text LabelDrop = codes "labeldrop"
action_text LabelKeep = codes "labelkeep"
action_text Lowercase = codes "lowercase"
action_text Uppercase = codes "uppercase"

-- the field `modulus`, which isn't written where it is the default
abbrev pub modulus_field : ℕ → List (List ℕ × Json)
modulus_field modulus = if modulus == default_modulus then [] else (codes "modulus", whole (pos modulus)) ∷ []

-- {"action":ACTION,"modulus":MODULUS,"regex":PATTERN,"replacement":REPLACEMENT,"separator":SEPARATOR,
-- "source_labels":[NAME],"target_label":NAME}
abbrev pub step_json : Step → Json
step_json step = object_of
    ((codes "action", text (action_text step.action))
    ∷ (modulus_field step.modulus
    ++ text_unless default_pattern (codes "regex") step.pattern
    ++ text_unless default_replacement (codes "replacement") step.replacement
    ++ text_unless default_separator (codes "separator") step.separator
    ++ list_field (codes "source_labels") step.source
    ++ text_unless [] (codes "target_label") step.target))

-- a list of steps, left out where it is empty
abbrev pub steps_field : List ℕ → List Step → List (List ℕ × Json)
steps_field field_name [] = []
steps_field field_name (step ∷ steps) = (field_name, array_of (map step_json (step ∷ steps))) ∷ []
