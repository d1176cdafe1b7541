-- What is known of the bytes of a token.
use Rattle.std.specs.Prelude.{◌≡◌, ℕ, ◌≤◌, List, [], ◌∷◌, slice_range, IsTrue}
use Rattle.std.specs.List.{list_all}
use Rattle.std.specs.Str.{IsCharBoundary}
use Rattle.std.specs.Str.Parse.{digits_value}
use Rattle.op_base.specs.Names.{is_digit}
use Rattle.ql_tree.specs.Strings.{is_quote}
use Rattle.ql_tree.specs.Tokens.{MOST}
use Rattle.ql_tree.specs.declared.token.Token.{Token}
use Rattle.ql_tree.specs.declared.token.TokenKind.{TokenKind}
use Rattle.ql_tree.specs.declared.token.TokenKind.TheVariants.{Number, Str}

-- the bytes begin with a quote
abbrev pub BeginsQuoted : List ℕ → Type 0
BeginsQuoted [] = ⊥
BeginsQuoted (b ∷ bytes) = IsTrue (is_quote b)

-- a number is digits that write no more than the greatest one, and a string begins with its quote
pub record IsReadable (kind : TokenKind) (bytes : List ℕ) : Type 0 where
  pub digits : kind ≡ Number → IsTrue (list_all is_digit bytes)
  pub fits : kind ≡ Number → digits_value 10 bytes ≤ MOST
  pub quoted : kind ≡ Str → BeginsQuoted bytes

-- the token's bytes are those of the text between two places where it may be cut
pub record IsPlaced (text : List ℕ) (token : Token) : Type 0 where
  pub ordered : token.start ≤ token.end
  pub starts : IsCharBoundary text token.start
  pub ends : IsCharBoundary text token.end
  pub readable : IsReadable token.kind (slice_range text token.start token.end)
