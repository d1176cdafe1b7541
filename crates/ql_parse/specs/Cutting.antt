-- The tokens of a text as a function of it: what stands at the front is taken, and then what stands
-- behind it. That these are the tokens of the text is a law: `proofs/CutLaws.antt`.
use Rattle.std.specs.Prelude.{ℕ, zero, suc, ◌+◌, List, [], ◌∷◌, Option, Some, None, Result, Ok, Err, drop, length}
use Rattle.ql_tree.specs.Tokens.{gap_at, token_at, token_of, with_token}
use Rattle.ql_tree.specs.declared.token.Token.{Token}
use Rattle.ql_tree.specs.declared.token.TokenKind.{TokenKind}

-- the tokens of a text, or the place of the byte that no token begins at
abbrev pub Tokens : Type 0
Tokens = Result (List Token) ℕ

-- white space or a comment of so many bytes stands at the front, or else a token, or neither; `behind`
-- is what stands at a later place
abbrev pub cut_front : (ℕ → List ℕ → Tokens) → ℕ → List ℕ → ℕ → Option (TokenKind × ℕ) → Tokens
cut_front behind place text (suc gap) found = behind (place + suc gap) (drop (suc gap) text)
cut_front behind place text zero (Some found) =
    with_token (token_of place found) (behind (place + found.1) (drop found.1 text))
cut_front behind place text zero None = Err place

-- the tokens of a text from a place on, where it has no more bytes than the first number
unfoldable pub cut_within : ℕ → ℕ → List ℕ → Tokens
cut_within n place [] = Ok []
cut_within zero place (b ∷ t) = Ok []
cut_within (suc n) place (b ∷ t) = cut_front (cut_within n) place (b ∷ t) (gap_at (b ∷ t)) (token_at (b ∷ t))

-- the tokens of a text, or the first byte that none begins at
abbrev pub tokens_in : List ℕ → Tokens
tokens_in text = cut_within (length text) 0 text
