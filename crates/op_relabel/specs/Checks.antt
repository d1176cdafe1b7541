-- What a relabelling step can be refused for, after the Prometheus documentation: of several faults the first.
use Rattle.std.specs.Prelude.{◌≡◌, ℕ, List, [], ◌∷◌, Bool, true, false, not, ◌==◌, ◌&&◌, Option, Some, None, is_some, bytes_eq, if◌then◌else◌}
use Rattle.std.specs.Option.{option_or}
use Rattle.std.specs.List.{AllByRecursion}
use Rattle.op_base.specs.Names.{is_label_name}
use Rattle.op_base.specs.Patterns.{meaning_of}
use Rattle.op_relabel.specs.declared.checking.StepFault.{StepFault}
use Rattle.op_relabel.specs.declared.checking.StepFault.TheVariants.{NoTarget, BadTarget, ZeroModulus, ExtraField, BadPattern}
use Rattle.op_relabel.specs.declared.step.Action.{Action}
use Rattle.op_relabel.specs.declared.step.Action.TheVariants.{Replace, Keep, Drop, KeepEqual, DropEqual, HashMod, LabelMap, LabelDrop, LabelKeep, Lowercase, Uppercase}
use Rattle.op_relabel.specs.declared.step.Step.{Step}
use Rattle.op_relabel.specs.Steps.{default_separator, default_pattern, default_replacement, default_modulus}

-- the action writes or compares the target label
abbrev pub has_target : Action → Bool
has_target Replace = true
has_target Keep = false
has_target Drop = false
has_target KeepEqual = true
has_target DropEqual = true
has_target HashMod = true
has_target LabelMap = false
has_target LabelDrop = false
has_target LabelKeep = false
has_target Lowercase = true
has_target Uppercase = true

-- the action divides by the modulus
abbrev pub has_modulus : Action → Bool
has_modulus Replace = false
has_modulus Keep = false
has_modulus Drop = false
has_modulus KeepEqual = false
has_modulus DropEqual = false
has_modulus HashMod = true
has_modulus LabelMap = false
has_modulus LabelDrop = false
has_modulus LabelKeep = false
has_modulus Lowercase = false
has_modulus Uppercase = false

-- separator, replacement and modulus are the defaults
abbrev pub has_defaults : Step → Bool
has_defaults step =
    bytes_eq step.separator default_separator && bytes_eq step.replacement default_replacement && step.modulus == default_modulus

-- there are no source labels
abbrev pub is_sourceless : List (List ℕ) → Bool
is_sourceless [] = true
is_sourceless (name ∷ names) = false

-- beside source labels and target all is the default
abbrev pub is_comparison : Step → Bool
is_comparison step = has_defaults step && bytes_eq step.pattern default_pattern

-- beside the pattern all is the default
abbrev pub is_pattern_alone : Step → Bool
is_pattern_alone step = has_defaults step && is_sourceless step.source && bytes_eq step.target []

-- the step has no field that its action doesn't know
abbrev pub has_own_fields : Action → Step → Bool
has_own_fields Replace step = true
has_own_fields Keep step = true
has_own_fields Drop step = true
has_own_fields KeepEqual step = is_comparison step
has_own_fields DropEqual step = is_comparison step
has_own_fields HashMod step = true
has_own_fields LabelMap step = true
has_own_fields LabelDrop step = is_pattern_alone step
has_own_fields LabelKeep step = is_pattern_alone step
has_own_fields Lowercase step = true
has_own_fields Uppercase step = true

-- what is wrong with a step's fields but its pattern: the target is missing, is no label name, the modulus is
-- 0, or a field stands there that the action doesn't know
abbrev pub field_fault : Step → Option StepFault
field_fault step =
    if has_target step.action && bytes_eq step.target [] then Some NoTarget
    else (if has_target step.action && not (is_label_name step.target) then Some BadTarget
    else (if has_modulus step.action && step.modulus == 0 then Some ZeroModulus
    else (if not (has_own_fields step.action step) then Some ExtraField else None)))

-- the pattern is none
abbrev pub pattern_fault : Step → Option StepFault
pattern_fault step = if is_some (meaning_of step.pattern) then None else Some BadPattern

-- the first fault of a step
abbrev pub first_fault : Step → Option StepFault
first_fault step = option_or (field_fault step) (pattern_fault step)

-- a step that passes has none
abbrev pub Passes : Step → Type 0
Passes step = first_fault step ≡ None

-- all steps pass
abbrev pub AllPass : List Step → Type 0
AllPass steps = AllByRecursion Passes steps
