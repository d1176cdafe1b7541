-- The labels that keys and results have, name by name: the contract of `labels_by_name`.
use Rattle.std.specs.Prelude.{◌≡◌, ℕ, List, [], ◌∷◌, Bool, Option, Some, None, bytes_eq, if◌then◌else◌}
use Rattle.std.specs.List.{list_any}
use Rattle.op_base.specs.Labels.{Texts}
use Rattle.op_base.specs.Matchers.{label_value}
use Rattle.ql_call.specs.Elements.{only, without}
use Rattle.ql_call.specs.Matched.{with_included}

-- an empty value is no label
abbrev pub unless_empty : List ℕ → Option (List ℕ)
unless_empty [] = None
unless_empty (b ∷ value) = Some (b ∷ value)

-- the name is in the list
abbrev pub is_among : List (List ℕ) → List ℕ → Bool
is_among names name = list_any (bytes_eq name) names

-- what a list of names leaves of labels; a label that isn't there has the empty value
pub record LabelsByName : Type 0 where
  -- of those of the names, as in `on` and `by`: these alone
  pub picked : (names : List (List ℕ)) (labels : Texts) (name : List ℕ)
      → label_value (only names labels) name ≡ (if is_among names name then label_value labels name else [])
  -- of those of other names, as in `ignoring` and `without`: these alone
  pub left : (names : List (List ℕ)) (labels : Texts) (name : List ℕ)
      → label_value (without names labels) name ≡ (if is_among names name then [] else label_value labels name)
  -- with the list of a `group_` clause: those of the names from the one side, all others from the many side
  pub included : (names : List (List ℕ)) (one many : Texts) (name : List ℕ)
      → label_value (with_included names one many) name ≡ (if is_among names name then label_value one name else label_value many name)
