-- What a word is in its place, beside the operators and clauses that ql_tree tells.
use Rattle.std.specs.Prelude.{ℕ, Bool, true, false, List, Option, Some, None, ◌==◌, if◌then◌else◌}
use Rattle.op_base.specs.Names.{is_label_name}
use Rattle.op_base.specs.declared.span.Span.{Span}
use Rattle.ql_tree.specs.Operators.{operator_of, level_of}
use Rattle.ql_tree.specs.declared.tree.BinaryOp.{BinaryOp}
use Rattle.ql_tree.specs.declared.word.Keyword.{Keyword}
use Rattle.ql_tree.specs.declared.word.Keyword.TheVariants as keyword
use Rattle.ql_tree.specs.declared.word.Word.{Word}
use Rattle.ql_tree.specs.declared.word.Word.TheVariants as word
use Rattle.ql_parse.specs.Found.{◌>>=◌, behind}

-- the two words are the same symbol, one of those that stand between terms
abbrev pub is_symbol : Word → Word → Bool
is_symbol word.Open word.Open = true
is_symbol word.Close word.Close = true
is_symbol word.Comma word.Comma = true
is_symbol word.OpenBrace word.OpenBrace = true
is_symbol word.CloseBrace word.CloseBrace = true
is_symbol word.OpenSquare word.OpenSquare = true
is_symbol word.CloseSquare word.CloseSquare = true
is_symbol word.Minus word.Minus = true
is_symbol _ _ = false

-- the words behind the symbol, where it stands in front
abbrev pub beyond : Word → List Word → Option (List Word)
beyond v = behind (is_symbol v)

-- both are the same keyword, one of the two that begin no clause with a list
abbrev pub same_keyword : Keyword → Keyword → Bool
same_keyword keyword.Offset keyword.Offset = true
same_keyword keyword.Bool keyword.Bool = true
same_keyword _ _ = false

-- the word is the keyword, in any letter case
abbrev pub is_keyword : Keyword → Word → Bool
is_keyword k (word.Name own text) = same_keyword k own
is_keyword k _ = false

-- the words behind the keyword, where it stands in front
abbrev pub beyond_keyword : Keyword → List Word → Option (List Word)
beyond_keyword k = behind (is_keyword k)

-- a label is a word without `:`, also a reserved one
abbrev pub label_of : Word → Option (List ℕ)
label_of (word.Name k text) = if is_label_name text then Some text else None
label_of _ = None

-- a name that isn't reserved
abbrev pub unreserved_of : Word → Option (List ℕ)
unreserved_of (word.Name keyword.Unreserved text) = Some text
unreserved_of _ = None

-- the text of a string
abbrev pub quoted_of : Word → Option (List ℕ)
quoted_of (word.Quoted text) = Some text
quoted_of _ = None

-- a duration
abbrev pub length_of : Word → Option Span
length_of (word.Duration span) = Some span
length_of _ = None

-- the operator, where it is of the level k
abbrev pub of_level : ℕ → BinaryOp → Option BinaryOp
of_level k op = if level_of op == k then Some op else None

-- the binary operator of the level k that the word is
abbrev pub operator_at : ℕ → Word → Option BinaryOp
operator_at k w = operator_of w >>= of_level k
