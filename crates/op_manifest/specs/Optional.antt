-- What counts as absent beside null, and what stands for a field that is absent.
use Rattle.std.specs.Prelude.{ℕ, ◌==◌, pos, int_lt, Bool, false, List, length, Option, Some, None, option_and_then, unwrap_or, if◌then◌else◌}
use Rattle.serde_json.specs.Data.{Data}
use Rattle.op_base.specs.declared.span.Span.{Span}
use Rattle.op_manifest.specs.Values.{flag_in, span_in}

-- a span of 0 is none
abbrev pub above_zero : Option Span → Option Span
above_zero span = option_and_then (λ (s : Span). if int_lt (pos 0) s.0 then Some s else None) span

-- the interval of a field: one of 0 counts as absent
abbrev pub interval_in : List ℕ → Data → Option Span
interval_in name d = above_zero (span_in name d)

-- an empty text counts as absent
abbrev pub unless_empty : Option (List ℕ) → Option (List ℕ)
unless_empty text = option_and_then (λ t. if length t == 0 then None else Some t) text

-- the field is true
abbrev pub is_set : List ℕ → Data → Bool
is_set name d = unwrap_or (flag_in name d) false
