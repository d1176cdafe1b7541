-- The reading of selectors: a name, matchers in braces, a range and an offset.
use Rattle.std.specs.Prelude.{ℕ, pos, neg_ℤ, List, [], Option, Some, None, int_lt, int_le, if◌then◌else◌}
use Rattle.std.specs.List.{list_any}
use Rattle.op_base.specs.declared.matcher.Matcher.{Matcher}
use Rattle.op_base.specs.declared.span.Span.{Span}
use Rattle.ql_tree.specs.Selecting.{match_of, is_on_name}
use Rattle.ql_tree.specs.Words.{span_of}
use Rattle.ql_tree.specs.declared.tree.Expr.{Expr}
use Rattle.ql_tree.specs.declared.tree.Expr.TheVariants as expr
use Rattle.ql_tree.specs.declared.word.Keyword.TheVariants as keyword
use Rattle.ql_tree.specs.declared.word.Word.{Word}
use Rattle.ql_tree.specs.declared.word.Word.TheVariants as word
use Rattle.ql_parse.specs.CommaLists.{enclosed}
use Rattle.ql_parse.specs.Found.{Found, Reader, ◌>>=◌, first}
use Rattle.ql_parse.specs.FrontWords.{beyond, beyond_keyword, label_of, unreserved_of, quoted_of, length_of}

-- a label, an operator and a string
unfoldable pub matcher : Reader Matcher
matcher ts =
    first label_of ts >>= λ label. first match_of label.1 >>= λ op. first quoted_of op.1
    >>= λ value. Some (record { name = label.0; op = op.0; value = value.0 }, value.1)

-- matchers between braces
unfoldable pub braces : Reader (List Matcher)
braces = enclosed word.OpenBrace word.CloseBrace matcher

-- a selector's name, if it has one, and its matchers
abbrev pub Headed : Type 0
Headed = Option (List ℕ) × List Matcher

-- the matchers that were read, with the name
abbrev pub headed : Option (List ℕ) → List Matcher × List Word → Found Headed
headed name ms = Some ((name, ms.0), ms.1)

-- matchers of a named selector: none is on `__name__`
abbrev pub named : List ℕ → List Matcher × List Word → Found Headed
named name ms = if list_any is_on_name ms.0 then None else headed (Some name) ms

-- behind a name, by the words behind `{`, if it stands in front
abbrev pub head_behind : List ℕ → List Word → Option (List Word) → Found Headed
head_behind name ts None = headed (Some name) ([], ts)
head_behind name ts (Some us) = braces ts >>= named name

-- by the name that stands in front, if one does
abbrev pub head_at : List Word → Option (List ℕ × List Word) → Found Headed
head_at ts None = braces ts >>= headed None
head_at ts (Some name) = head_behind name.0 name.1 (beyond word.OpenBrace name.1)

-- a name that isn't reserved, matchers in braces, or both
unfoldable pub head : Reader Headed
head ts = head_at ts (first unreserved_of ts)

-- the duration, where it is above 0
abbrev pub above_zero : Span → List Word → Found (Option Span)
above_zero span ts = if int_lt (pos 0) span.0 then Some (Some span, ts) else None

-- by the words behind `[`, if it stands in front
abbrev pub range_at : List Word → Option (List Word) → Found (Option Span)
range_at ts None = Some (None, ts)
range_at ts (Some us) =
    first length_of us
    >>= λ span. beyond word.CloseSquare span.1
    >>= above_zero span.0

-- a duration above 0 in square brackets, or nothing
unfoldable pub range : Reader (Option Span)
range ts = range_at ts (beyond word.OpenSquare ts)

-- the offset of a duration
abbrev pub back : Span × List Word → Found (Option Span)
back span = Some (Some span.0, span.1)

-- the negative offset of a duration, which in a text is never negative itself
abbrev pub ahead : Span × List Word → Found (Option Span)
ahead span =
    if int_le (pos 0) span.0.0 then Some (Some (span_of (neg_ℤ span.0.0)), span.1) else None

-- behind `offset`, by the words behind a minus, if it stands in front
abbrev pub offset_by : List Word → Option (List Word) → Found (Option Span)
offset_by ts None = first length_of ts >>= back
offset_by ts (Some us) = first length_of us >>= ahead

-- by the words behind `offset`, if it stands in front
abbrev pub offset_at : List Word → Option (List Word) → Found (Option Span)
offset_at ts None = Some (None, ts)
offset_at ts (Some us) = offset_by us (beyond word.Minus us)

-- `offset` with a duration, which a minus makes negative, or nothing
unfoldable pub offset : Reader (Option Span)
offset ts = offset_at ts (beyond_keyword keyword.Offset ts)

-- a head, a range and an offset
unfoldable pub selector : Reader Expr
selector ts =
    head ts >>= λ found. range found.1 >>= λ window. offset window.1
    >>= λ shift. Some (expr.Select found.0.0 found.0.1 window.0 shift.0, shift.1)
