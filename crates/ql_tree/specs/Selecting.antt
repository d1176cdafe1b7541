-- Selectors of PromQL: a name, matchers in braces, a range and an offset.
use Rattle.std.specs.Prelude.{◌≡◌, ℕ, ℤ, pos, neg_ℤ, ◌<ℤ◌, Bool, true, false, List, [], ◌∷◌, ◌++◌, Option, Some, None, bytes_eq}
use Rattle.std.specs.List.{list_any}
use Rattle.op_base.specs.Names.{is_label_name}
use Rattle.op_base.specs.declared.label_names.TheConstants.{METRIC_NAME}
use Rattle.op_base.specs.declared.matcher.Matcher.{Matcher}
use Rattle.op_base.specs.declared.matcher.MatchOp.{MatchOp}
use Rattle.op_base.specs.declared.matcher.MatchOp.TheVariants as match
use Rattle.op_base.specs.declared.span.Span.{Span}
use Rattle.ql_tree.specs.Words.{span_of}
use Rattle.ql_tree.specs.declared.tree.Expr.{Expr}
use Rattle.ql_tree.specs.declared.tree.Expr.TheVariants as expr
use Rattle.ql_tree.specs.declared.word.Keyword.{Keyword}
use Rattle.ql_tree.specs.declared.word.Keyword.TheVariants as keyword
use Rattle.ql_tree.specs.declared.word.Word.{Word}
use Rattle.ql_tree.specs.declared.word.Word.TheVariants as word

-- `=`, `!=`, `=~` and `!~`
unfoldable pub match_of : Word → Option MatchOp
match_of word.Assign = Some match.Eq
match_of word.NotEqual = Some match.Ne
match_of word.Match = Some match.Re
match_of word.NotMatch = Some match.Nr
match_of _ = None

-- the word of a matcher's operator
abbrev pub match_word : MatchOp → Word
match_word match.Eq = word.Assign
match_word match.Ne = word.NotEqual
match_word match.Re = word.Match
match_word match.Nr = word.NotMatch

-- a label, an operator and a string
pub data MatcherOf : Matcher → List Word → Type 0 where
  matcher : (k : Keyword) (label value : List ℕ) (w : Word) (op : MatchOp) → is_label_name label ≡ true → match_of w ≡ Some op
      → MatcherOf (record { name = label; op = op; value = value }) (word.Name k label ∷ w ∷ word.Quoted value ∷ [])

-- matchers between braces, with a comma between each two and perhaps one behind the last
pub data Matchers : List Matcher → List Word → Type 0 where
  none : Matchers [] []
  last : (m : Matcher) (ts : List Word) → MatcherOf m ts → Matchers (m ∷ []) ts
  more : (m : Matcher) (ms : List Matcher) (ts us : List Word) → MatcherOf m ts → Matchers ms us
      → Matchers (m ∷ ms) (ts ++ (word.Comma ∷ us))

-- the matcher is on the metric's name
abbrev pub is_on_name : Matcher → Bool
is_on_name m = bytes_eq m.name METRIC_NAME.now

-- a name that isn't reserved, matchers in braces, or both; a named selector has no matcher on `__name__`
pub data Head : Option (List ℕ) → List Matcher → List Word → Type 0 where
  bare : (name : List ℕ) → Head (Some name) [] (word.Name keyword.Unreserved name ∷ [])
  named : (name : List ℕ) (ms : List Matcher) (ts : List Word) → list_any is_on_name ms ≡ false → Matchers ms ts
      → Head (Some name) ms (word.Name keyword.Unreserved name ∷ word.OpenBrace ∷ (ts ++ (word.CloseBrace ∷ [])))
  nameless : (ms : List Matcher) (ts : List Word) → Matchers ms ts
      → Head None ms (word.OpenBrace ∷ (ts ++ (word.CloseBrace ∷ [])))

-- a duration above 0 in square brackets, or nothing
pub data RangeOf : Option Span → List Word → Type 0 where
  none : RangeOf None []
  given : (milliseconds : ℤ) → pos 0 <ℤ milliseconds
      → RangeOf (Some (span_of milliseconds)) (word.OpenSquare ∷ word.Duration (span_of milliseconds) ∷ word.CloseSquare ∷ [])

-- `offset` with a duration, which a minus makes negative, or nothing
pub data OffsetOf : Option Span → List Word → Type 0 where
  none : OffsetOf None []
  back : (text : List ℕ) (milliseconds : ℤ)
      → OffsetOf (Some (span_of milliseconds)) (word.Name keyword.Offset text ∷ word.Duration (span_of milliseconds) ∷ [])
  ahead : (text : List ℕ) (milliseconds : ℤ)
      → OffsetOf (Some (span_of (neg_ℤ milliseconds)))
      (word.Name keyword.Offset text ∷ word.Minus ∷ word.Duration (span_of milliseconds) ∷ [])

pub data SelectorOf : Expr → List Word → Type 0 where
  selector : (name : Option (List ℕ)) (ms : List Matcher) (range offset : Option Span) (ts us vs : List Word)
      → Head name ms ts → RangeOf range us → OffsetOf offset vs
      → SelectorOf (expr.Select name ms range offset) (ts ++ (us ++ vs))
