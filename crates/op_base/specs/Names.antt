-- Names: namespaces and objects after Kubernetes (DNS labels and subdomains), labels and metrics
-- after the Prometheus data model.
use Rattle.std.specs.Prelude.{ℕ, Bool, false, List, ◌-◌, ◌==◌, ◌&&◌, ◌||◌, nat_le, length, slice_get}
use Rattle.std.specs.Option.{option_map_or}
use Rattle.std.specs.List.{list_all, slice_split}

-- a to z
abbrev pub is_lower : ℕ → Bool
is_lower b = nat_le 97 b && nat_le b 122

-- A to Z
abbrev pub is_upper : ℕ → Bool
is_upper b = nat_le 65 b && nat_le b 90

-- 0 to 9
abbrev pub is_digit : ℕ → Bool
is_digit b = nat_le 48 b && nat_le b 57

-- a lower-case letter or a digit
abbrev pub is_lower_or_digit : ℕ → Bool
is_lower_or_digit b = is_lower b || is_digit b

-- a lower-case letter, a digit or `-`
abbrev pub is_part_byte : ℕ → Bool
is_part_byte b = is_lower_or_digit b || b == 45

-- there is a byte at the place, and it passes
abbrev pub passes_at : (ℕ → Bool) → List ℕ → ℕ → Bool
passes_at p text place = option_map_or p (slice_get text place) false

-- one part of a name: lower-case letters, digits and `-`, with a letter or digit at both ends
abbrev pub is_part : List ℕ → Bool
is_part text =
    passes_at is_lower_or_digit text 0 && passes_at is_lower_or_digit text (length text - 1)
    && list_all is_part_byte text

-- a dot
abbrev pub is_dot : ℕ → Bool
is_dot b = b == 46

-- a namespace: one part of at most 63 bytes
abbrev pub is_namespace : List ℕ → Bool
is_namespace text = nat_le (length text) 63 && is_part text

-- an object's name: parts joined by `.`, at most 253 bytes in all
abbrev pub is_name : List ℕ → Bool
is_name text = nat_le (length text) 253 && list_all is_part (slice_split is_dot text)

-- a letter or `_`
abbrev pub is_label_start : ℕ → Bool
is_label_start b = is_lower b || is_upper b || b == 95

-- a byte of a label name behind its first
abbrev pub is_label_byte : ℕ → Bool
is_label_byte b = is_label_start b || is_digit b

-- a label name: a letter or `_`, then letters, digits and `_`
abbrev pub is_label_name : List ℕ → Bool
is_label_name text = passes_at is_label_start text 0 && list_all is_label_byte text

-- a first byte of a metric name: one of a label name, or a colon
abbrev pub is_metric_start : ℕ → Bool
is_metric_start b = is_label_start b || b == 58

-- a byte of a metric name behind its first
abbrev pub is_metric_byte : ℕ → Bool
is_metric_byte b = is_label_byte b || b == 58

-- a metric name: as a label name, and `:` may stand anywhere
abbrev pub is_metric_name : List ℕ → Bool
is_metric_name text = passes_at is_metric_start text 0 && list_all is_metric_byte text
