-- The JSON of what a tick line lists: alerts, failed rules and stored entries.
use Rattle.std.specs.Prelude.{ℕ, ℤ, pos, Bool, true, false, List, [], ◌∷◌, map, Option, Some, None, codes}
use Rattle.op_base.specs.Labels.{Texts}
use Rattle.op_json.specs.Json.{Json, null, flag, text, whole, array_of, object_of}
use Rattle.op_report.specs.declared.view.AlertView.{AlertView}

-- {NAME:VALUE,..}
abbrev pub labels_json : Texts → Json
labels_json labels = object_of (map (λ label. (label.0, text label.1)) labels)

-- how the state of an alert is written; true where it fires
abbrev pub state_word : Bool → List ℕ
state_word true = codes "firing"
state_word false = codes "pending"

-- [RECEIVER,GROUPLABELS]
abbrev pub reached_json : List ℕ × Texts → Json
reached_json reached = array_of (text reached.0 ∷ labels_json reached.1 ∷ [])

-- [LABELS,STATE,FIRST,MUTED,[[RECEIVER,GROUPLABELS],..]]
abbrev pub alert_json : AlertView → Json
alert_json alert = array_of
    (labels_json alert.labels
    ∷ text (state_word alert.firing)
    ∷ whole alert.first.0
    ∷ flag alert.muted
    ∷ array_of (map reached_json alert.receivers)
    ∷ [])

-- [NAME,GROUP,INDEX]
abbrev pub failed_json : List ℕ × List ℕ × ℕ → Json
failed_json failed = array_of (text failed.0 ∷ text failed.1 ∷ whole (pos failed.2) ∷ [])

-- null stands for a staleness marker
abbrev pub value_json : Option ℤ → Json
value_json None = null
value_json (Some value) = whole value

-- [LABELS,VALUE]
abbrev pub stored_json : Texts × Option ℤ → Json
stored_json stored = array_of (labels_json stored.0 ∷ value_json stored.1 ∷ [])
