-- The pieces of a printed text, which are words and the blanks between them, and the bytes of each.
use Rattle.std.specs.Prelude.{ℕ, List, [], ◌∷◌, ◌++◌, ◌==◌, nat_abs, codes, if◌then◌else◌}
use Rattle.std.specs.Fmt.{signed_decimal}
use Rattle.std.specs.List.{flat_map}
use Rattle.ql_tree.specs.Durations.{duration_text}
use Rattle.ql_tree.specs.declared.word.Word.{Word}
use Rattle.ql_tree.specs.declared.word.Word.TheVariants as word

-- `\"`, `\\` and `\n` are the only escapes
abbrev pub escaped : ℕ → List ℕ
escaped b = if b == 34 then codes "\\\"" else if b == 92 then codes "\\\\" else if b == 10 then codes "\\n" else b ∷ []

-- a text in double quotes, with escapes
unfoldable pub quoted_text : List ℕ → List ℕ
quoted_text text = codes "\"" ++ flat_map escaped text ++ codes "\""

-- what a word is written with: a number in decimal, a duration as one number with a unit, a name as
-- it stands, a string in quotes
abbrev pub bytes_of : Word → List ℕ
bytes_of (word.Number z) = signed_decimal z
bytes_of (word.Duration span) = duration_text (nat_abs span.0)
bytes_of (word.Name k text) = text
bytes_of (word.Quoted text) = quoted_text text
bytes_of word.Plus = codes "+"
bytes_of word.Minus = codes "-"
bytes_of word.Star = codes "*"
bytes_of word.Slash = codes "/"
bytes_of word.Percent = codes "%"
bytes_of word.Equal = codes "=="
bytes_of word.NotEqual = codes "!="
bytes_of word.Greater = codes ">"
bytes_of word.Less = codes "<"
bytes_of word.GreaterEqual = codes ">="
bytes_of word.LessEqual = codes "<="
bytes_of word.Assign = codes "="
bytes_of word.Match = codes "=~"
bytes_of word.NotMatch = codes "!~"
bytes_of word.Open = codes "("
bytes_of word.Close = codes ")"
bytes_of word.OpenBrace = codes "{"
bytes_of word.CloseBrace = codes "}"
bytes_of word.OpenSquare = codes "["
bytes_of word.CloseSquare = codes "]"
bytes_of word.Comma = codes ","

-- a blank between two words, or a word
pub data Piece : Type 0 where
  blank : Piece
  written : Word → Piece

-- the bytes of a piece
abbrev pub piece_text : Piece → List ℕ
piece_text Piece.blank = codes " "
piece_text (Piece.written w) = bytes_of w

-- the text that the pieces are
abbrev pub text_of : List Piece → List ℕ
text_of pieces = flat_map piece_text pieces
