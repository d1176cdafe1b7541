-- Patterns: the regular expressions of the crate `regex`, anchored at both ends as Prometheus
-- anchors them, with three forms that mean what they say without it.
use Rattle.std.specs.Prelude.{◌≡◌, ℕ, Bool, true, false, not, ◌||◌, ◌==◌, List, [], ◌∷◌, ◌++◌, codes, chars, bytes_eq, Option, Some, None, IsSome, is_some, option_map, option_and_then, replicate, IsSomeAnd, nat_le, nat_lt, if◌then◌else◌}
use Rattle.std.specs.Option.{option_map_or}
use Rattle.regex_syntax.specs.Grammar.{Names, read}
use Rattle.regex.specs.Templates.{written_after}
use Rattle.regex.specs.Replace.{group_bytes}
use Rattle.regex.specs.Patterns.{Re, find_str, default_config, SameCaptures}
use Rattle.regex.specs.Strings.{regex_pattern, regex_names}
use Rattle.regex.specs.declared.string.regex.Regex.{Regex}
use Rattle.op_base.specs.declared.pattern.Form.{Form}
use Rattle.op_base.specs.declared.pattern.Form.TheVariants.{Every, NotEmpty, Literal, Regular}
use Rattle.op_base.specs.Names.{is_lower, is_upper, is_digit}

-- what a pattern means: every text, every text that isn't empty, one text, or what `regex` finds
pub data Meaning : Type 0 where
  every : Meaning
  nonempty : Meaning
  literal : List ℕ → Meaning
  regular : Re → Names → Meaning

-- a letter, a digit, `_` or `-`
abbrev pub is_literal_byte : ℕ → Bool
is_literal_byte b = is_lower b || is_upper b || is_digit b || b == 95 || b == 45

-- a text of such bytes and of the pair `\-`, without its backslashes; the flag is true behind one
abbrev pub unescaped : Bool → List ℕ → Option (List ℕ)
unescaped false [] = Some []
unescaped true [] = None
unescaped false (b ∷ text) =
    if b == 92 then unescaped true text
    else (if is_literal_byte b then option_map (λ rest. b ∷ rest) (unescaped false text) else None)
unescaped true (b ∷ text) = if b == 45 then option_map (λ rest. b ∷ rest) (unescaped false text) else None

-- the text that a literal pattern means
abbrev pub literal_of : List ℕ → Option (List ℕ)
literal_of [] = None
literal_of (b ∷ text) = unescaped false (b ∷ text)

-- what `regex` reads in a text that isn't nested too deep, with the names of its groups
abbrev pub reading_of : List ℕ → Option (Re × Names)
reading_of text =
    option_and_then (λ (found, names). if nat_le found.depth default_config.nest_limit then Some (found.value, names) else None)
    (read default_config (chars text))

-- the text anchored at both ends
abbrev pub anchored : List ℕ → List ℕ
anchored text = codes "^(?:" ++ text ++ codes ")$"

-- a text that `regex` reads means what it reads in the anchored one, where it reads that too
abbrev pub regular_of : Option (Re × Names) → Option (Re × Names) → Option Meaning
regular_of None anchored_reading = None
regular_of (Some reading) None = None
regular_of (Some reading) (Some (re, names)) = Some (regular re names)

-- a literal pattern means its text
abbrev pub literal_or_regular : Option (List ℕ) → List ℕ → Option Meaning
literal_or_regular (Some literal_text) text = Some (literal literal_text)
literal_or_regular None text = regular_of (reading_of text) (reading_of (anchored text))

-- what a text means as a pattern, if it is one
abbrev pub meaning_of : List ℕ → Option Meaning
meaning_of text =
    if bytes_eq text (codes "(.*)") then Some every
    else (if bytes_eq text (codes "(.+)") then Some nonempty else literal_or_regular (literal_of text) text)

-- the text is a pattern
abbrev pub IsPattern : List ℕ → Type 0
IsPattern text = IsSome (meaning_of text)

-- whether a value matches
abbrev pub meaning_matches : List ℕ → Meaning → Bool
meaning_matches value every = true
meaning_matches value nonempty = not (bytes_eq value [])
meaning_matches value (literal text) = bytes_eq text value
meaning_matches value (regular re names) = is_some (find_str re value 0)

-- whether a value matches the pattern that a text is
abbrev pub pattern_matches : List ℕ → List ℕ → Bool
pattern_matches text value = option_map_or (meaning_matches value) (meaning_of text) false

-- what group n matched where so many groups, from 0 on, matched the whole value
abbrev pub whole_group : ℕ → List ℕ → ℕ → List ℕ
whole_group count value n = if nat_lt n count then value else []

-- what a template stands for there; none of these groups has a name
abbrev pub written_whole : ℕ → List ℕ → List ℕ → List ℕ
written_whole count value template = written_after (replicate count None) (whole_group count value) template 0

-- what a template stands for at a value that matches: group 0 is the whole value
abbrev pub meaning_expands : List ℕ → List ℕ → Meaning → Option (List ℕ)
meaning_expands value template every = Some (written_whole 2 value template)
meaning_expands value template nonempty = if bytes_eq value [] then None else Some (written_whole 2 value template)
meaning_expands value template (literal text) = if bytes_eq text value then Some (written_whole 1 value template) else None
meaning_expands value template (regular re names) =
    option_map (λ found. written_after names (group_bytes value found) template 0) (find_str re value 0)

-- the same of the pattern that a text is
abbrev pub pattern_expands : List ℕ → List ℕ → List ℕ → Option (List ℕ)
pattern_expands text value template = option_and_then (meaning_expands value template) (meaning_of text)

-- a compiled pattern finds what the reading finds
abbrev pub IsRegular : Regex → Meaning → Type 0
IsRegular regex every = ⊥
IsRegular regex nonempty = ⊥
IsRegular regex (literal text) = ⊥
IsRegular regex (regular re names) = SameCaptures (regex_pattern regex) re × (regex_names regex ≡ names)

-- how a pattern is kept shows its meaning
abbrev pub IsFormOf : Option Meaning → Form → Type 0
IsFormOf meaning Every = meaning ≡ Some every
IsFormOf meaning NotEmpty = meaning ≡ Some nonempty
IsFormOf meaning (Literal text) = meaning ≡ Some (literal text.items)
IsFormOf meaning (Regular regex) = IsSomeAnd meaning (IsRegular regex)

-- a compiled text finds what `regex` reads in it
abbrev pub IsCompiled : List ℕ → Regex → Type 0
IsCompiled text regex = IsSomeAnd (reading_of text) (λ (re, names). SameCaptures (regex_pattern regex) re × (regex_names regex ≡ names))

-- whether a byte of a literal pattern begins the pair `\-` or stands for itself, if it may stand there
abbrev pub literal_step : Bool → ℕ → Option Bool
literal_step true b = if b == 45 then Some false else None
literal_step false b = if b == 92 then Some true else (if is_literal_byte b then Some false else None)

-- what such a byte adds
abbrev pub literal_part : Bool → ℕ → List ℕ
literal_part true b = []
literal_part false b = b ∷ []
