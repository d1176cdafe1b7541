-- A text as the replacement of a relabelling step that gives the text itself: there `$` begins a reference, and `$$`
-- stands for `$`.
use Rattle.std.specs.Prelude.{ℕ, ◌==◌, List, [], ◌∷◌, if◌then◌else◌}
use Rattle.std.specs.List.{flat_map}

-- a byte, or two of them where it is `$`
abbrev pub doubled : ℕ → List ℕ
doubled b = if b == 36 then 36 ∷ 36 ∷ [] else b ∷ []

-- the text with each `$` written `$$`
abbrev pub doubled_dollars : List ℕ → List ℕ
doubled_dollars text = flat_map doubled text
