-- What a value has in a field: nothing where the field is absent or has another form, so that each definition is total
-- and keeps the forms by itself.
use Rattle.std.specs.Prelude.{ℕ, Bool, List, [], ◌∷◌, Option, Some, None, Result, Ok, Err, option_and_then, option_map, unwrap_or}
use Rattle.serde_json.specs.Data.{Data, Items, no_items, item}
use Rattle.serde_json.specs.Find.{as_str, as_bool, as_number, as_array}
use Rattle.op_base.specs.Spans.{span_read}
use Rattle.op_base.specs.declared.span.Span.{Span}
use Rattle.op_base.specs.declared.span.SpanFault.{SpanFault}
use Rattle.op_manifest.specs.Checks.{field, number_within}

-- a value that is a text, or the empty text
abbrev pub text_of : Data → List ℕ
text_of d = unwrap_or (as_str d) []

-- the text of a field
unfoldable pub text_in : List ℕ → Data → Option (List ℕ)
text_in name d = option_and_then as_str (field name d)

-- whether a field is true, where it is true or false
unfoldable pub flag_in : List ℕ → Data → Option Bool
flag_in name d = option_and_then as_bool (field name d)

-- the number of a field, a whole one from 0 to 2^53
unfoldable pub number_in : List ℕ → Data → Option ℕ
number_in name d = option_and_then number_within (option_and_then as_number (field name d))

-- the span, where there is one
abbrev pub span_if : Result Span SpanFault → Option Span
span_if (Ok span) = Some span
span_if (Err fault) = None

-- the span of a text, which an empty one hasn't
abbrev pub span_of : List ℕ → Option Span
span_of text = span_if (span_read text)

-- the span of a field
unfoldable pub span_in : List ℕ → Data → Option Span
span_in name d = option_and_then span_of (option_and_then as_str (field name d))

-- each item, as what it is read as
abbrev pub each_of : {X : Type 0} → (Data → X) → Items → List X
each_of of no_items = []
each_of of (item d ds) = of d ∷ each_of of ds

-- the items of a field that is a list
unfoldable pub items_in : {X : Type 0} → (Data → X) → List ℕ → Data → Option (List X)
items_in of name d = option_map (each_of of) (option_and_then as_array (field name d))
