-- `label_replace` and `label_join`, which change one label of each element.
use Rattle.std.specs.Prelude.{ℕ, List, [], ◌∷◌, ◌++◌, Option, Some, None, map}
use Rattle.op_base.specs.Labels.{Texts, labels_with}
use Rattle.op_base.specs.Matchers.{label_value}
use Rattle.op_base.specs.Patterns.{pattern_expands}
use Rattle.ql_call.specs.Clashes.{gathered}
use Rattle.ql_call.specs.Elements.{Element}
use Rattle.ql_call.specs.Operators.{changed_to}
use Rattle.ql_call.specs.declared.changed.Changed.{Changed}
use Rattle.ql_call.specs.declared.outcome.Outcome.{Outcome}

-- the target has what the replacement expands to, where the source's value matches
abbrev pub replaced_by : List ℕ → Texts → Option (List ℕ) → Texts
replaced_by target labels None = labels
replaced_by target labels (Some value) = labels_with labels target value

-- an element with its target label replaced, where the pattern matches the source label's value
abbrev pub replaced : List ℕ → List ℕ → List ℕ → List ℕ → Element → Changed
replaced target replacement source pattern e =
    changed_to e.0 (replaced_by target e.0 (pattern_expands pattern (label_value e.0 source) replacement)) e.1

-- `label_replace` of each element
abbrev pub label_replace : List ℕ → List ℕ → List ℕ → List ℕ → List Element → Outcome
label_replace target replacement source pattern elements = gathered (map (replaced target replacement source pattern) elements)

-- texts with a separator between two
abbrev pub joined : List ℕ → List (List ℕ) → List ℕ
joined separator [] = []
joined separator (text ∷ []) = text
joined separator (text ∷ next ∷ texts) = text ++ separator ++ joined separator (next ∷ texts)

-- the target has the values of the sources, with the separator between them
abbrev pub joined_to : List ℕ → List ℕ → List (List ℕ) → Element → Changed
joined_to target separator sources e =
    changed_to e.0 (labels_with e.0 target (joined separator (map (label_value e.0) sources))) e.1

-- `label_join` of each element
abbrev pub label_join : List ℕ → List ℕ → List (List ℕ) → List Element → Outcome
label_join target separator sources elements = gathered (map (joined_to target separator sources) elements)
