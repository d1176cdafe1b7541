-- The reserved words of PromQL.
use Rattle.std.specs.Prelude.{ℕ, Bool, List, [], ◌∷◌, codes}
use Rattle.std.specs.List.{list_any}
use Rattle.std.specs.Str.{str_eq_ignore_ascii_case}

-- the words in lower case; no tree spells the last six
abbrev pub reserved_words : List (List ℕ)
reserved_words =
    codes "and" ∷ codes "or" ∷ codes "unless" ∷ codes "on" ∷ codes "ignoring" ∷ codes "by" ∷ codes "without"
    ∷ codes "bool" ∷ codes "offset" ∷ codes "group_left" ∷ codes "group_right"
    ∷ codes "sum" ∷ codes "min" ∷ codes "max" ∷ codes "avg" ∷ codes "group" ∷ codes "count"
    ∷ codes "count_values" ∷ codes "topk" ∷ codes "bottomk"
    ∷ codes "stddev" ∷ codes "stdvar" ∷ codes "quantile" ∷ codes "atan2" ∷ codes "inf" ∷ codes "nan" ∷ []

-- the text is a reserved word, in any ASCII letter case
unfoldable pub is_reserved : List ℕ → Bool
is_reserved text = list_any (λ word. str_eq_ignore_ascii_case text word) reserved_words
