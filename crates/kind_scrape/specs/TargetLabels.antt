-- Labels of a Kubernetes object that its targets get: each is named by its key, as Prometheus writes keys of labels.
use Rattle.std.specs.Prelude.{ℕ, Bool, not, ◌&&◌, List, codes, map, nat_eq, if◌then◌else◌}
use Rattle.std.specs.List.{starts_with}
use Rattle.op_base.specs.Names.{is_label_start, is_label_byte, is_label_name}
use Rattle.op_manifest.specs.declared.shape.TheConstants.ShapeRule.{BAD_LABEL}
use Rattle.op_manifest.specs.Checks.{Check, worded, list}

-- a byte that is no letter, digit or `_` is written `_`
abbrev pub label_byte : ℕ → ℕ
label_byte b = if is_label_byte b then b else 95

-- the byte, once it is written, may begin a label name
abbrev pub begins : ℕ → Bool
begins b = is_label_start (label_byte b)

-- the byte is written `_`
abbrev pub is_bar : ℕ → Bool
is_bar b = nat_eq 95 (label_byte b)

-- the key of a label of Kubernetes, as a label of Prometheus is named after it
abbrev pub label_of_key : List ℕ → List ℕ
label_of_key key = map label_byte key

-- once it is written so, the text is a label name that doesn't begin with `__`
abbrev pub is_target_label : List ℕ → Bool
is_target_label text = is_label_name (label_of_key text) && not (starts_with nat_eq (label_of_key text) (codes "__"))

-- a list of such texts
abbrev pub target_labels : Check
target_labels = list (worded BAD_LABEL is_target_label)
