-- The elements of vectors and their labels. A vector is a finite map from label sets to numbers.
use Rattle.std.specs.Prelude.{ℕ, ℤ, pos, List, [], fold, map, ◌+ℤ◌}
use Rattle.op_base.specs.Maps.{without_entry}
use Rattle.op_base.specs.Labels.{Texts, labels_with}
use Rattle.op_base.specs.Matchers.{label_value}
use Rattle.op_base.specs.declared.label_names.TheConstants.{METRIC_NAME}

-- labels and a value
abbrev pub Element : Type 0
Element = Texts × ℤ

-- the labels without the metric's name
abbrev pub without_name : Texts → Texts
without_name labels = without_entry labels METRIC_NAME.now

-- the labels of these names alone
abbrev pub only : List (List ℕ) → Texts → Texts
only names labels = fold (λ kept name. labels_with kept name (label_value labels name)) [] names

-- the labels of all other names
abbrev pub without : List (List ℕ) → Texts → Texts
without names labels = fold without_entry labels names

-- the values of elements
abbrev pub values_in : List Element → List ℤ
values_in elements = map (λ (e : Element). e.1) elements

-- the exact sum
abbrev pub total : List ℤ → ℤ
total values = fold ◌+ℤ◌ (pos 0) values
