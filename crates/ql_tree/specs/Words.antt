-- The words of a PromQL text: its tokens with their values, as the grammar sees them.
use Rattle.std.specs.Prelude.{ℕ, ℤ, pos, Bool, List, [], ◌∷◌, Option, Some, None, codes, bytes_eq, slice_range, if◌then◌else◌}
use Rattle.std.specs.Option.{unwrap_or}
use Rattle.std.specs.Str.{str_eq_ignore_ascii_case}
use Rattle.std.specs.Str.Parse.{digits_value}
use Rattle.op_base.specs.declared.span.Span.{Span}
use Rattle.ql_tree.specs.Durations.{duration_of}
use Rattle.ql_tree.specs.Reserved.{is_reserved}
use Rattle.ql_tree.specs.Strings.{string_value}
use Rattle.ql_tree.specs.declared.token.Token.{Token}
use Rattle.ql_tree.specs.declared.token.TokenKind.{TokenKind}
use Rattle.ql_tree.specs.declared.token.TokenKind.TheVariants as kind
use Rattle.ql_tree.specs.declared.tree.AggregateOp.TheVariants as aggregate
use Rattle.ql_tree.specs.declared.word.Keyword.{Keyword}
use Rattle.ql_tree.specs.declared.word.Keyword.TheVariants as keyword
use Rattle.ql_tree.specs.declared.word.Word.{Word}
use Rattle.ql_tree.specs.declared.word.Word.TheVariants as word

-- the value at the first key that the test finds
abbrev pub found_in : {V : Type 0} → (List ℕ → Bool) → List (List ℕ × V) → Option V
found_in is_key [] = None
found_in is_key (entry ∷ rest) = if is_key entry.0 then Some entry.1 else found_in is_key rest

-- the reserved words that trees spell
abbrev pub keywords : List (List ℕ × Keyword)
keywords =
    (codes "and", keyword.And) ∷ (codes "or", keyword.Or) ∷ (codes "unless", keyword.Unless)
    ∷ (codes "on", keyword.On) ∷ (codes "ignoring", keyword.Ignoring)
    ∷ (codes "by", keyword.By) ∷ (codes "without", keyword.Without)
    ∷ (codes "bool", keyword.Bool) ∷ (codes "offset", keyword.Offset)
    ∷ (codes "group_left", keyword.GroupLeft) ∷ (codes "group_right", keyword.GroupRight)
    ∷ (codes "sum", keyword.Aggregate aggregate.Sum) ∷ (codes "min", keyword.Aggregate aggregate.Min)
    ∷ (codes "max", keyword.Aggregate aggregate.Max) ∷ (codes "avg", keyword.Aggregate aggregate.Avg)
    ∷ (codes "group", keyword.Aggregate aggregate.Group) ∷ (codes "count", keyword.Aggregate aggregate.Count)
    ∷ (codes "count_values", keyword.Aggregate aggregate.CountValues)
    ∷ (codes "topk", keyword.Aggregate aggregate.TopK) ∷ (codes "bottomk", keyword.Aggregate aggregate.BottomK) ∷ []

-- what the word means, in any ASCII letter case
unfoldable pub keyword_of : List ℕ → Keyword
keyword_of text =
    if is_reserved text then unwrap_or (found_in (str_eq_ignore_ascii_case text) keywords) keyword.Unused
    else keyword.Unreserved

-- the texts of the symbols and their words
abbrev pub symbols : List (List ℕ × Word)
symbols =
    (codes "+", word.Plus) ∷ (codes "-", word.Minus) ∷ (codes "*", word.Star) ∷ (codes "/", word.Slash)
    ∷ (codes "%", word.Percent) ∷ (codes "==", word.Equal) ∷ (codes "!=", word.NotEqual)
    ∷ (codes ">", word.Greater) ∷ (codes "<", word.Less) ∷ (codes ">=", word.GreaterEqual)
    ∷ (codes "<=", word.LessEqual) ∷ (codes "=", word.Assign) ∷ (codes "=~", word.Match)
    ∷ (codes "!~", word.NotMatch) ∷ (codes "(", word.Open) ∷ (codes ")", word.Close)
    ∷ (codes "{", word.OpenBrace) ∷ (codes "}", word.CloseBrace) ∷ (codes "[", word.OpenSquare)
    ∷ (codes "]", word.CloseSquare) ∷ (codes ",", word.Comma) ∷ []

-- a number of a token
abbrev pub number_of : ℕ → ℤ
number_of n = pos n

-- a span of so many milliseconds
abbrev pub span_of : ℤ → Span
span_of milliseconds = record { 0 = milliseconds }

-- a token's text as the grammar sees it
unfoldable pub word_of : TokenKind → List ℕ → Word
word_of kind.Word text = word.Name (keyword_of text) text
word_of kind.Number text = word.Number (number_of (digits_value 10 text))
word_of kind.Duration text = word.Duration (duration_of text)
word_of kind.Str text = word.Quoted (string_value text)
word_of kind.Symbol text = unwrap_or (found_in (bytes_eq text) symbols) word.Comma

-- the token of the text as the grammar sees it
abbrev pub word_in : List ℕ → Token → Word
word_in text token = word_of token.kind (slice_range text token.start token.end)
