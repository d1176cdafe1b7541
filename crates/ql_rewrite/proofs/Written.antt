-- Words as texts: which of them are written so that they are read again, and which may stand behind
-- which without a blank.
use Rattle.std.proofs.Common.{◌≡◌, ℕ, pos, ◌≤◌, ◌≤ℤ◌, Bool, true, false, List, [], ◌∷◌, nat_abs, length, not, ◌&&◌}
use Rattle.std.specs.List.{AllByRecursion as Each}
use Rattle.op_base.specs.Names.{is_metric_name}
use Rattle.op_base.specs.Spans.{longest}
use Rattle.ql_tree.specs.Pieces.{Piece, bytes_of}
use Rattle.ql_tree.specs.Tokens.{MOST, token_of}
use Rattle.ql_tree.specs.Words.{keyword_of}
use Rattle.ql_tree.specs.declared.token.Token.{Token}
use Rattle.ql_tree.specs.declared.token.TokenKind.{TokenKind}
use Rattle.ql_tree.specs.declared.token.TokenKind.TheVariants as kind
use Rattle.ql_tree.specs.declared.word.Word.{Word}
use Rattle.ql_tree.specs.declared.word.Word.TheVariants as word

-- the kind of its token
abbrev pub kind_of : Word → TokenKind
kind_of (word.Number z) = kind.Number
kind_of (word.Duration span) = kind.Duration
kind_of (word.Name k text) = kind.Word
kind_of (word.Quoted text) = kind.Str
kind_of _ = kind.Symbol

-- A text can write the word: a number from 0 to 2^63 - 1, a duration from 0 to the longest span, a
-- name of letters, digits, `_` and `:` that means what it does in any text, and any string or symbol.
abbrev pub IsWritten : Word → Type 0
IsWritten (word.Number z) = (pos 0 ≤ℤ z) × (nat_abs z ≤ MOST)
IsWritten (word.Duration span) = (pos 0 ≤ℤ span.0) × (nat_abs span.0 ≤ longest)
IsWritten (word.Name k text) = (is_metric_name text ≡ true) × (k ≡ keyword_of text)
IsWritten _ = Unit {0}

-- a text can write all of the words
abbrev pub AreWritten : List Word → Type 0
AreWritten words = Each IsWritten words

-- a name, number or duration: the letters and digits that follow would belong to it
abbrev pub is_run : Word → Bool
is_run (word.Number z) = true
is_run (word.Duration span) = true
is_run (word.Name k text) = true
is_run _ = false

-- `=`, `>` and `<`, which `=` makes another symbol, as `~` does the first
abbrev pub may_double : Word → Bool
may_double word.Assign = true
may_double word.Greater = true
may_double word.Less = true
may_double _ = false

-- `==`, `=` and `=~`
abbrev pub begins_equal : Word → Bool
begins_equal word.Equal = true
begins_equal word.Assign = true
begins_equal word.Match = true
begins_equal _ = false

-- the second may stand right behind the first
abbrev pub is_safe : Word → Word → Bool
is_safe v w = not (is_run v && is_run w) && not (may_double v && begins_equal w)

-- the words of the pieces
abbrev pub words_of : List Piece → List Word
words_of [] = []
words_of (Piece.blank ∷ pieces) = words_of pieces
words_of (Piece.written w ∷ pieces) = w ∷ words_of pieces

-- the word may stand right before the pieces
abbrev pub is_safe_before : Word → List Piece → Bool
is_safe_before w [] = true
is_safe_before w (Piece.blank ∷ pieces) = true
is_safe_before w (Piece.written v ∷ pieces) = is_safe w v

-- each two words with no blank between them may stand so
abbrev pub are_safe : List Piece → Bool
are_safe [] = true
are_safe (Piece.blank ∷ pieces) = are_safe pieces
are_safe (Piece.written w ∷ pieces) = is_safe_before w pieces && are_safe pieces

-- the token of the word at a place
abbrev pub token_at_place : ℕ → Word → Token
token_at_place place w = token_of place (kind_of w, length (bytes_of w))
