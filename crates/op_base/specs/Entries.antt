-- Places in the list of a map's entries.
use Rattle.std.specs.Prelude.{ℕ, suc, Bool, false, List, [], ◌∷◌, Option, Some, None, cond, slice_get}
use Rattle.std.specs.Option.{option_map_or}
use Rattle.std.specs.Ordering.{nat_cmp, is_gt, eq_by_cmp}
use Rattle.std.specs.Cmp.Lexicographic.{slice_cmp}
use Rattle.op_base.specs.Maps.{Map}

-- how many entries stand before the place of a key: those in front whose keys are below it
abbrev pub place_in : {X : Type 0} → Map X → List ℕ → ℕ
place_in [] key = 0
place_in (entry ∷ entries) key = cond (is_gt (slice_cmp nat_cmp key entry.0)) (suc (place_in entries key)) 0

-- the entry at the place has the key
abbrev pub stands_at : {X : Type 0} → Map X → ℕ → List ℕ → Bool
stands_at entries place key = option_map_or (λ entry. eq_by_cmp (slice_cmp nat_cmp) key entry.0) (slice_get entries place) false

-- an entry's value, where it has the key
abbrev pub value_if : {X : Type 0} → List ℕ → List ℕ × X → Option X
value_if key entry = cond (eq_by_cmp (slice_cmp nat_cmp) key entry.0) (Some entry.1) None
