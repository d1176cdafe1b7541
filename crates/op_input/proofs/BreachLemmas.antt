-- Breaches that are noted apart, and taken together afterwards.
use Rattle.std.proofs.Common.{refl}
use Rattle.std.specs.Prelude.{◌≡◌, List, [], ◌∷◌, ◌++◌, None}
use Rattle.std.specs.Option.{option_or}
use Rattle.op_manifest.specs.declared.shape.Shape.{Shape}
use Rattle.op_manifest.specs.Shapes.{first, later}

-- those that come first, and else the others
pub apart : (these those : List Shape) → option_or (later None these) (later None those) ≡ first (these ++ those)
unfolding later first
apart [] those = refl
apart (shape ∷ these) those = refl

-- with further ones behind them
pub apart_then : (these those rest : List Shape) → later (option_or (later None these) (later None those)) rest ≡ first (these ++ (those ++ (rest ++ [])))
unfolding later first
apart_then [] [] [] = refl
apart_then [] [] (shape ∷ rest) = refl
apart_then [] (shape ∷ those) rest = refl
apart_then (shape ∷ these) those rest = refl
