-- Paths of breaches, and what readers note one after the other.
use Rattle.std.proofs.Common.{arith}
use Rattle.std.specs.Prelude.{ℕ, List, [], ◌∷◌, ◌++◌, ◌≡◌, ◌≤◌, length, Option, Some, None}
use Rattle.op_manifest.specs.declared.shape.Shape.{Shape}
use Rattle.op_manifest.specs.Shapes.{path_to, first, later}

-- the path of a field below a path that isn't empty
pub path_under : (path name : List ℕ) → 1 ≤ length path → path_to path name ≡ path ++ 46 ∷ name
path_under [] name some = absurd (omega (arith, some))
path_under (b ∷ path) name some = λ i. path_to (b ∷ path) name

-- nothing wrong changes nothing
pub later_none : (found : Option Shape) → later found [] ≡ found
unfolding later first
later_none None = λ i. None
later_none (Some shape) = λ i. Some shape

-- breaches one after the other
pub later_both : (found : Option Shape) (these those : List Shape) → later found (these ++ those) ≡ later (later found these) those
unfolding later first
later_both None [] those = λ i. later None those
later_both None (shape ∷ these) those = λ i. Some shape
later_both (Some shape) these those = λ i. Some shape

-- what is told where nothing was noted before
pub later_first : (wrongs : List Shape) → later None wrongs ≡ first wrongs
unfolding later
later_first wrongs = λ i. first wrongs
