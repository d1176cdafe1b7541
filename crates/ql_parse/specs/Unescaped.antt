-- One step of the way through a string's inside.
use Rattle.std.specs.Prelude.{◌≡◌, ℕ, ◌<◌, ◌≤◌, List, [], ◌∷◌, ◌++◌, Option, Some, None, length, drop, encode_utf8}
use Rattle.std.specs.Option.{option_map}
use Rattle.std.specs.Str.{IsUtf8}
use Rattle.ql_tree.specs.Strings.{inside_from}
use Rattle.ql_parse.specs.declared.unescaped.Step.{Step}
use Rattle.ql_parse.specs.declared.unescaped.Step.TheVariants.{Close, Byte, Character, Broken}

-- the text that the inside writes which begins behind the next n bytes
abbrev pub value_from : ℕ → ℕ → List ℕ → Option (List ℕ)
value_from quote n bytes = option_map (λ found. found.0) (inside_from quote n bytes)

-- bytes before what an inside writes
abbrev pub behind : List ℕ → Option (List ℕ) → Option (List ℕ)
behind piece value = option_map (λ text. piece ++ text) value

-- the next n bytes stand for the piece; where the text is UTF-8 with bytes before them, it stays so
-- with the piece in their place
pub record IsPiece (quote : ℕ) (bytes piece : List ℕ) (n : ℕ) : Type 0 where
  pub some : 0 < n
  pub within : n ≤ length bytes
  pub value : value_from quote 0 bytes ≡ behind piece (value_from quote 0 (drop n bytes))
  pub utf8 : (before : List ℕ) → IsUtf8 (before ++ bytes)
      → IsUtf8 ((before ++ piece) ++ drop n bytes)

-- the closing quote stands here
pub record IsClosed (quote : ℕ) (bytes : List ℕ) : Type 0 where
  pub value : value_from quote 0 bytes ≡ Some []
  pub utf8 : (before : List ℕ) → IsUtf8 (before ++ bytes) → IsUtf8 before

-- the closing quote stands here, a byte or an escaped character does, or none of these
abbrev pub IsStep : ℕ → List ℕ → Step → Type 0
IsStep quote bytes Close = IsClosed quote bytes
IsStep quote bytes (Byte b) = IsPiece quote bytes (b ∷ []) 1
IsStep quote bytes (Character c n) = IsPiece quote bytes (encode_utf8 c) n
IsStep quote bytes Broken = value_from quote 0 bytes ≡ None
