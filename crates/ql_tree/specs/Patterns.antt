-- Which texts are patterns of matchers and of `label_replace`.
use Rattle.std.specs.Prelude.{ℕ, Bool, List, is_some}
use Rattle.op_base.specs.Patterns.{meaning_of}

-- the text is a pattern
unfoldable pub is_pattern : List ℕ → Bool
is_pattern text = is_some (meaning_of text)
