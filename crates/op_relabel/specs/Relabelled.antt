-- What relabelling steps leave of a label set, after the Prometheus documentation.
use Rattle.std.specs.Prelude.{List, [], ◌∷◌, not, Option, Some, filter, option_and_then}
use Rattle.op_base.specs.Labels.{Texts}
use Rattle.op_relabel.specs.declared.step.Action.{Action}
use Rattle.op_relabel.specs.declared.step.Action.TheVariants.{Replace, Keep, Drop, KeepEqual, DropEqual, HashMod, LabelMap, LabelDrop, LabelKeep, Lowercase, Uppercase}
use Rattle.op_relabel.specs.declared.step.Step.{Step}
use Rattle.op_relabel.specs.Actions.{replaced, kept_if, has_match, is_equal, hashed, mapped, is_named, is_named_else, lowered, raised}

-- what an action leaves of the labels, or none where it drops them
abbrev pub acted : Action → Step → Texts → Option Texts
acted Replace step labels = Some (replaced step labels)
acted Keep step labels = kept_if (has_match step labels) labels
acted Drop step labels = kept_if (not (has_match step labels)) labels
acted KeepEqual step labels = kept_if (is_equal step labels) labels
acted DropEqual step labels = kept_if (not (is_equal step labels)) labels
acted HashMod step labels = Some (hashed step labels)
acted LabelMap step labels = Some (mapped step labels)
acted LabelDrop step labels = Some (filter (is_named_else step) labels)
acted LabelKeep step labels = Some (filter (is_named step) labels)
acted Lowercase step labels = Some (lowered step labels)
acted Uppercase step labels = Some (raised step labels)

-- the labels after a step, by its action
abbrev pub after_step : Step → Texts → Option Texts
after_step step labels = acted step.action step labels

-- the steps one after the other; what is dropped stays dropped
abbrev pub relabelled : List Step → Texts → Option Texts
relabelled [] labels = Some labels
relabelled (step ∷ steps) labels = option_and_then (relabelled steps) (after_step step labels)
