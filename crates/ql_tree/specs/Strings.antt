-- Strings of PromQL: text in `"`, `'` or backticks. In the first two a newline is refused and a
-- backslash begins an escape; backticks have no escapes.
use Rattle.std.specs.Prelude.{ℕ, zero, suc, ◌+◌, ◌-◌, Bool, List, [], ◌∷◌, ◌++◌, Option, Some, None, ◌==◌, ◌&&◌, ◌||◌, nat_le, nat_lt, length, take, if◌then◌else◌, encode_utf8}
use Rattle.std.specs.Option.{option_and_then, option_map}
use Rattle.std.specs.List.{list_all}
use Rattle.std.specs.Char.{is_digit}
use Rattle.std.specs.Str.Parse.{digits_value}

-- a double quote, a single quote or a backtick
abbrev pub is_quote : ℕ → Bool
is_quote b = b == 34 || b == 39 || b == 96

-- a backtick, between which nothing is escaped
abbrev pub is_backtick : ℕ → Bool
is_backtick b = b == 96

-- a character of Unicode: no surrogate, and at most 10FFFF
abbrev pub is_character : ℕ → Bool
is_character c = nat_lt c 0xd800 || (nat_le 0xe000 c && nat_lt c 0x110000)

-- a code below 0x80, whose byte in UTF-8 is the code itself
abbrev pub is_seven_bit : ℕ → Bool
is_seven_bit c = nat_lt c 0x80

-- the number that the next digits of the radix write, as many as asked
unfoldable pub numeral_at : ℕ → ℕ → List ℕ → Option ℕ
numeral_at radix count text =
    if nat_le count (length text) && list_all (λ b. is_digit b radix) (take count text)
    then Some (digits_value radix (take count text)) else None

-- the character that digits write, where it passes the test, and how many bytes of the text were
-- taken with those before the digits
unfoldable pub coded : (ℕ → Bool) → ℕ → ℕ → ℕ → List ℕ → Option (ℕ × ℕ)
coded passes before radix count text =
    option_and_then (λ c. if passes c then Some (c, before + count) else None) (numeral_at radix count text)

-- `a b f n r t v`, a backslash, and the string's own quote
abbrev pub plain_escape : ℕ → ℕ → Option ℕ
plain_escape quote e =
    if e == 97 then Some 7 else if e == 98 then Some 8 else if e == 102 then Some 12
    else if e == 110 then Some 10 else if e == 114 then Some 13 else if e == 116 then Some 9
    else if e == 118 then Some 11 else if e == 92 || e == quote then Some e else None

-- the escape behind a backslash: its character, and how many bytes it takes. Three octal digits and
-- `x` with two hexadecimal ones stay below 0x80; `u` has four and `U` eight.
unfoldable pub escape_at : ℕ → List ℕ → Option (ℕ × ℕ)
escape_at quote [] = None
escape_at quote (e ∷ t) =
    if is_digit e 8 then coded is_seven_bit 0 8 3 (e ∷ t)
    else if e == 120 then coded is_seven_bit 1 16 2 t
    else if e == 117 then coded is_character 1 16 4 t
    else if e == 85 then coded is_character 1 16 8 t
    else option_map (λ c. (c, 1)) (plain_escape quote e)

-- the first byte or escape of a string's inside: the bytes that it stands for, and how many it takes
unfoldable pub piece_at : ℕ → List ℕ → Option (List ℕ × ℕ)
piece_at quote [] = None
piece_at quote (b ∷ t) =
    if is_backtick quote then Some (b ∷ [], 1)
    else if b == 10 then None
    else if b == 92 then option_map (λ found. (encode_utf8 found.0, 1 + found.1)) (escape_at quote t)
    else Some (b ∷ [], 1)

-- one byte more was taken
abbrev pub one_more : List ℕ × ℕ → List ℕ × ℕ
one_more found = (found.0, 1 + found.1)

-- what is found behind a piece of a string: the piece's bytes come first, and it is one piece more
abbrev pub behind_piece : List ℕ → List ℕ × ℕ → List ℕ × ℕ
behind_piece bytes found = (bytes ++ found.0, 1 + found.1)

-- a string's inside from behind the next bytes, which a piece has taken: the text that it writes,
-- and how many bytes it takes up to its closing quote, that included
unfoldable pub inside_from : ℕ → ℕ → List ℕ → Option (List ℕ × ℕ)
inside_from quote n [] = None
inside_from quote (suc n) (b ∷ t) = option_map one_more (inside_from quote n t)
inside_from quote zero (b ∷ t) =
    if b == quote then Some ([], 1)
    else option_and_then (λ piece. option_map (behind_piece piece.0) (inside_from quote (piece.1 - 1) t)) (piece_at quote (b ∷ t))

-- the bytes of the string that is found, none where none is
abbrev pub text_found : Option (List ℕ × ℕ) → List ℕ
text_found None = []
text_found (Some found) = found.0

-- the text that a string with its quotes writes
unfoldable pub string_value : List ℕ → List ℕ
string_value [] = []
string_value (quote ∷ t) = text_found (inside_from quote 0 t)
