-- One step of the way through a string's inside.
use Rattle.std.specs.Prelude.{◌≡◌, ℕ, ◌+◌, ◌<◌, ◌≤◌, List, Option, Some, None, length, drop}
use Rattle.std.specs.Option.{option_map}
use Rattle.ql_tree.specs.Strings.{inside_from}
use Rattle.ql_token.specs.declared.strings.Step.{Step}
use Rattle.ql_token.specs.declared.strings.Step.TheVariants.{Close, Piece, Broken}

-- how many bytes the inside takes that begins behind the next n bytes
abbrev pub length_of : ℕ → ℕ → List ℕ → Option ℕ
length_of quote n bytes = option_map (λ found. found.1) (inside_from quote n bytes)

-- a length behind so many bytes more
abbrev pub after : ℕ → Option ℕ → Option ℕ
after n o = option_map (λ m. n + m) o

-- the closing quote stands here, a piece of n bytes does, or neither
abbrev pub IsStep : ℕ → List ℕ → Step → Type 0
IsStep quote bytes Close = (0 < length bytes) × (length_of quote 0 bytes ≡ Some 1)
IsStep quote bytes (Piece n) =
    (0 < n) × (n ≤ length bytes) × (length_of quote 0 bytes ≡ after n (length_of quote 0 (drop n bytes)))
IsStep quote bytes Broken = length_of quote 0 bytes ≡ None
