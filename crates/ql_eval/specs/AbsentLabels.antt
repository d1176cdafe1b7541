-- The labels that `absent` and `absent_over_time` of a selector give, label by label: the contract of
-- `absent_by_name`.
use Rattle.std.specs.Prelude.{◌≡◌, ℕ, List, [], ◌∷◌, Option, None, filter, bytes_eq, if◌then◌else◌}
use Rattle.op_base.specs.declared.matcher.Matcher.{Matcher}
use Rattle.op_base.specs.Maps.{value_at}
use Rattle.ql_tree.specs.Enforced.{is_on}
use Rattle.op_base.specs.declared.label_names.TheConstants.{METRIC_NAME}
use Rattle.ql_call.specs.LabelsByName.{unless_empty}
use Rattle.ql_eval.specs.Absent.{absent_labels, is_equality}

-- the value that matchers on one name give: that of their first equality, where no other one follows it
abbrev pub sole_value : List Matcher → List ℕ
sole_value [] = []
sole_value (m ∷ []) = if is_equality m.op then m.value else []
sole_value (m ∷ other ∷ matchers) = if is_equality m.op then [] else sole_value (other ∷ matchers)

-- the value of a label; the metric's name is never given
abbrev pub given_value : List Matcher → List ℕ → Option (List ℕ)
given_value asked name = if bytes_eq name METRIC_NAME.now then None else unless_empty (sole_value (filter (is_on name) asked))

-- what is given has these values
abbrev pub AbsentByName : Type 0
AbsentByName = (asked : List Matcher) (name : List ℕ) → value_at (absent_labels [] asked) name ≡ given_value asked name
