-- What each action leaves of a label set, after the Prometheus documentation. A missing label counts as the
-- empty text.
use Rattle.std.specs.Prelude.{ℕ, ◌%◌, List, [], ◌∷◌, ◌++◌, Bool, not, Option, Some, None, bytes_eq, decimal, drop, filter, map, option_map, option_and_then, if◌then◌else◌}
use Rattle.std.specs.Char.{to_ascii_lowercase, to_ascii_uppercase}
use Rattle.std.specs.Int.{w64, from_be_bytes}
use Rattle.std.specs.List.{filter_map, flat_map}
use Rattle.md5.specs.Md5.{md5}
use Rattle.op_base.specs.Labels.{Texts, labels_with, labels_with_all}
use Rattle.op_base.specs.Matchers.{label_value}
use Rattle.op_base.specs.Names.{is_label_name}
use Rattle.op_base.specs.Patterns.{pattern_matches, pattern_expands}
use Rattle.op_relabel.specs.declared.step.Step.{Step}

-- the value of a label that stands after another, with the separator before it
abbrev pub next_value : List ℕ → Texts → List ℕ → List ℕ
next_value separator labels name = separator ++ label_value labels name

-- the values of the labels with these names, with the separator between two
abbrev pub joined : List ℕ → Texts → List (List ℕ) → List ℕ
joined separator labels [] = []
joined separator labels (name ∷ names) = label_value labels name ++ flat_map (next_value separator labels) names

-- the text of a step
abbrev pub step_text : Step → Texts → List ℕ
step_text step labels = joined step.separator labels step.source

-- the labels with the text at the target; an empty one removes the label
abbrev pub with_expanded : Texts → List ℕ → Option (List ℕ) → Texts
with_expanded labels target None = labels
with_expanded labels target (Some text) = labels_with labels target text

-- where the step's text matches, the target becomes what the replacement stands for; else nothing changes
abbrev pub replaced : Step → Texts → Texts
replaced step labels = with_expanded labels step.target (pattern_expands step.pattern (step_text step labels) step.replacement)

-- the labels, where they are kept
abbrev pub kept_if : Bool → Texts → Option Texts
kept_if is_kept labels = if is_kept then Some labels else None

-- the step's text matches
abbrev pub has_match : Step → Texts → Bool
has_match step labels = pattern_matches step.pattern (step_text step labels)

-- the step's text is the value of the target label
abbrev pub is_equal : Step → Texts → Bool
is_equal step labels = bytes_eq (step_text step labels) (label_value labels step.target)

-- the number that the last eight of sixteen bytes are, the first of them the highest
abbrev pub last_half : List ℕ → ℕ
last_half digest = from_be_bytes w64 (drop 8 digest)

-- the number of a text, by its MD5
abbrev pub hash_of : List ℕ → ℕ
hash_of text = last_half (md5 text)

-- the target becomes the number of the step's text modulo the modulus, in decimal
abbrev pub hashed : Step → Texts → Texts
hashed step labels = labels_with labels step.target (decimal (hash_of (step_text step labels) % step.modulus))

-- the label name, or none where a text is no label name
abbrev pub as_label_name : List ℕ → Option (List ℕ)
as_label_name text = if is_label_name text then Some text else None

-- the name that a label's name is mapped to: what the replacement stands for where the name matches, if that is
-- a label name
abbrev pub mapped_name : Step → List ℕ → Option (List ℕ)
mapped_name step name = option_and_then as_label_name (pattern_expands step.pattern name step.replacement)

-- the label at the name that its own is mapped to
abbrev pub mapped_label : Step → List ℕ × List ℕ → Option (List ℕ × List ℕ)
mapped_label step label = option_map (λ name. (name, label.1)) (mapped_name step label.0)

-- each label whose name is mapped gives its value to that name, in the order of names; all are those of before
abbrev pub mapped : Step → Texts → Texts
mapped step labels = labels_with_all labels (filter_map (mapped_label step) labels)

-- the label's name matches
abbrev pub is_named : Step → List ℕ × List ℕ → Bool
is_named step label = pattern_matches step.pattern label.0

-- the label's name doesn't match
abbrev pub is_named_else : Step → List ℕ × List ℕ → Bool
is_named_else step label = not (is_named step label)

-- the target becomes the step's text in lower case
abbrev pub lowered : Step → Texts → Texts
lowered step labels = labels_with labels step.target (map to_ascii_lowercase (step_text step labels))

-- the target becomes the step's text in upper case
abbrev pub raised : Step → Texts → Texts
raised step labels = labels_with labels step.target (map to_ascii_uppercase (step_text step labels))
