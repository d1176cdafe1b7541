-- The JSON of texts, of maps of texts and of spans.
use Rattle.std.specs.Prelude.{ℕ, List, [], ◌∷◌, map, codes, nat_abs, bytes_eq, if◌then◌else◌}
use Rattle.op_base.specs.declared.span.Span.{Span}
use Rattle.op_base.specs.Labels.{Texts}
use Rattle.op_base.specs.Spans.{span_written}
use Rattle.op_json.specs.Json.{Json, text, array_of, object_of}

-- a map of texts
abbrev pub texts_json : Texts → Json
texts_json entries = object_of (map (λ entry. (entry.0, text entry.1)) entries)

-- the labels, left out where there are none
abbrev pub labels_field : Texts → List (List ℕ × Json)
labels_field [] = []
labels_field (label ∷ labels) = (codes "labels", texts_json (label ∷ labels)) ∷ []

-- a list of texts
abbrev pub list_json : List (List ℕ) → Json
list_json texts = array_of (map text texts)

-- the same as a field, left out where it is empty
abbrev pub list_field : List ℕ → List (List ℕ) → List (List ℕ × Json)
list_field field_name [] = []
list_field field_name (one ∷ more) = (field_name, list_json (one ∷ more)) ∷ []

-- a text, left out where it is the default
abbrev pub text_unless : List ℕ → List ℕ → List ℕ → List (List ℕ × Json)
text_unless default name value = if bytes_eq value default then [] else (name, text value) ∷ []

-- a span of 0 or more
abbrev pub span_json : Span → Json
span_json span = text (span_written (nat_abs span.0))
