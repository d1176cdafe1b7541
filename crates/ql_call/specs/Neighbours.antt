-- The functions of a range that look at neighbours: each number beside the next one. What they compute is a sum
-- or a count over them, which is the contract of `ranges_by_neighbours`.
use Rattle.std.specs.Prelude.{◌≡◌, ℤ, List, drop, map, not, int_lt}
use Rattle.std.specs.List.{count_by, zip}
use Rattle.std.specs.Ordering.{int_eq}
use Rattle.ql_call.specs.Elements.{total}
use Rattle.ql_call.specs.Over.{changes_in, increase_in, resets_in, rise}

-- each number with the next one
abbrev pub neighbours : List ℤ → List (ℤ × ℤ)
neighbours numbers = zip numbers (drop 1 numbers)

-- what the functions are of the neighbours
pub record AreOverNeighbours : Type 0 where
  -- `increase` is the total of what they rise by
  pub increase : (numbers : List ℤ) → increase_in numbers ≡ total (map (λ (pair : ℤ × ℤ). rise pair.0 pair.1) (neighbours numbers))
  -- `changes` counts those that differ
  pub changes : (numbers : List ℤ) → changes_in numbers ≡ count_by (λ (pair : ℤ × ℤ). not (int_eq pair.0 pair.1)) (neighbours numbers)
  -- `resets` counts those that fall
  pub resets : (numbers : List ℤ) → resets_in numbers ≡ count_by (λ (pair : ℤ × ℤ). int_lt pair.1 pair.0) (neighbours numbers)
