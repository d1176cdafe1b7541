-- The tokens of PromQL: words, numbers, durations, strings and symbols, with white space and
-- comments between them. The longest token is taken.
use Rattle.std.specs.Prelude.{◌≡◌, ◌≢◌, ℕ, ◌+◌, ◌<◌, Bool, false, List, [], ◌∷◌, Option, Some, None, Result, Ok, Err, ◌==◌, ◌&&◌, ◌||◌, not, nat_le, take, drop, if◌then◌else◌}
use Rattle.std.specs.Option.{option_map}
use Rattle.std.specs.List.{list_all, prefix_len}
use Rattle.std.specs.Str.Parse.{digits_value}
use Rattle.op_base.specs.Names.{is_digit, is_metric_start, is_metric_byte}
use Rattle.ql_tree.specs.Strings.{is_quote, inside_from}
use Rattle.ql_tree.specs.Durations.{is_duration}
use Rattle.ql_tree.specs.declared.token.Token.{Token}
use Rattle.ql_tree.specs.declared.token.TokenKind.{TokenKind}
use Rattle.ql_tree.specs.declared.token.TokenKind.TheVariants.{Word, Number, Duration, Str, Symbol}

-- space, TAB, newline or carriage return
abbrev pub is_blank : ℕ → Bool
is_blank b = b == 32 || b == 9 || b == 10 || b == 13

-- the byte is no newline
abbrev pub is_in_line : ℕ → Bool
is_in_line b = not (b == 10)

-- how many bytes of white space or comment begin the text: one white byte, or a comment from its `#`
-- up to the end of the line
unfoldable pub gap_at : List ℕ → ℕ
gap_at [] = 0
gap_at (b ∷ t) = if is_blank b then 1 else if b == 35 then 1 + prefix_len is_in_line t else 0

-- the greatest number that is written, 2^63 - 1
abbrev pub MOST : ℕ
MOST = 9223372036854775807

-- digits alone are a number, where it isn't too large, digits and units a duration
unfoldable pub numeric_kind : List ℕ → Option TokenKind
numeric_kind run =
    if list_all is_digit run then (if nat_le (digits_value 10 run) MOST then Some Number else None)
    else if is_duration run then Some Duration else None

-- `==`, `!=`, `>=`, `<=`, `=~` and `!~`
abbrev pub is_double : ℕ → ℕ → Bool
is_double b c = (c == 61 && (b == 61 || b == 33 || b == 62 || b == 60)) || (c == 126 && (b == 61 || b == 33))

-- `( ) { } [ ]`
abbrev pub is_bracket : ℕ → Bool
is_bracket b = b == 40 || b == 41 || b == 123 || b == 125 || b == 91 || b == 93

-- `+ - * / % > < =`, a bracket or `,`
abbrev pub is_single : ℕ → Bool
is_single b =
    b == 43 || b == 45 || b == 42 || b == 47 || b == 37 || b == 62 || b == 60 || b == 61 || is_bracket b || b == 44

-- the text begins with a byte that makes a symbol of two of the one before it
abbrev pub doubles : ℕ → List ℕ → Bool
doubles b [] = false
doubles b (c ∷ t) = is_double b c

-- a symbol of two bytes where both make one, else one of a single byte
unfoldable pub symbol_at : ℕ → List ℕ → Option (TokenKind × ℕ)
symbol_at b t = if doubles b t then Some (Symbol, 2) else if is_single b then Some (Symbol, 1) else None

-- the word, or the digits with what follows them of a word, that begins the text: how many bytes
abbrev pub run_at : List ℕ → ℕ
run_at text = prefix_len is_metric_byte text

-- the longest token that begins the text: its kind, and how many bytes it has. A number or duration is
-- the whole of the digits and what follows them of a word.
unfoldable pub token_at : List ℕ → Option (TokenKind × ℕ)
token_at [] = None
token_at (b ∷ t) =
    if is_metric_start b then Some (Word, run_at (b ∷ t))
    else if is_digit b then option_map (λ kind. (kind, run_at (b ∷ t))) (numeric_kind (take (run_at (b ∷ t)) (b ∷ t)))
    else if is_quote b then option_map (λ found. (Str, 1 + found.1)) (inside_from b 0 t)
    else symbol_at b t

-- the token of that kind and length at a place
abbrev pub token_of : ℕ → TokenKind × ℕ → Token
token_of place found = record { kind = found.0; start = place; end = place + found.1 }

-- a token in front of the others
abbrev pub with_token : Token → Result (List Token) ℕ → Result (List Token) ℕ
with_token token (Ok tokens) = Ok (token ∷ tokens)
with_token token (Err place) = Err place

-- The text from a place on is cut into its tokens, or it is not: then the place is the first byte
-- that no token, white space or comment begins at.
pub data Cut : ℕ → List ℕ → Result (List Token) ℕ → Type 0 where
  -- nothing is left
  end : (place : ℕ) → Cut place [] (Ok [])
  -- white space and comments are passed over
  gap : (place : ℕ) (text : List ℕ) (rest : Result (List Token) ℕ) → 0 < gap_at text
      → Cut (place + gap_at text) (drop (gap_at text) text) rest → Cut place text rest
  -- the longest token
  token : (place : ℕ) (text : List ℕ) (found : TokenKind × ℕ) (rest : Result (List Token) ℕ) → gap_at text ≡ 0
      → token_at text ≡ Some found → Cut (place + found.1) (drop found.1 text) rest
      → Cut place text (with_token (token_of place found) rest)
  -- none begins here
  bad : (place : ℕ) (text : List ℕ) → text ≢ [] → gap_at text ≡ 0 → token_at text ≡ None → Cut place text (Err place)

-- the text is these tokens, in order, with white space and comments between them
abbrev pub IsTokens : List ℕ → List Token → Type 0
IsTokens text tokens = Cut 0 text (Ok tokens)

-- the text is no list of tokens, and none begins at this byte, the first such
abbrev pub IsBadAt : List ℕ → ℕ → Type 0
IsBadAt text place = Cut 0 text (Err place)
