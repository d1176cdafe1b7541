-- Durations of PromQL: the spans of Prometheus, with a unit.
use Rattle.std.specs.Prelude.{ℕ, Bool, List, Result, Ok, Err, pos, is_ok}
use Rattle.op_base.specs.Spans.{span_read, span_written}
use Rattle.op_base.specs.declared.span.Span.{Span}
use Rattle.op_base.specs.declared.span.SpanFault.{SpanFault}

-- digits and units in their order, no longer than the longest span
unfoldable pub is_duration : List ℕ → Bool
is_duration text = is_ok (span_read text)

-- the span that is read; where none is, which no token of a duration has, 0
abbrev pub span_or_none : Result Span SpanFault → Span
span_or_none (Ok span) = span
span_or_none (Err fault) = record { 0 = pos 0 }

-- the span of a duration
unfoldable pub duration_of : List ℕ → Span
duration_of text = span_or_none (span_read text)

-- how a span of so many milliseconds is written
unfoldable pub duration_text : ℕ → List ℕ
duration_text milliseconds = span_written milliseconds
