-- Children that are too few haven't the types asked for.
use Rattle.std.proofs.Common.{◌≡◌, ◌<◌, Bool, false, List, [], ◌∷◌, ◌&&◌, length, take, refl, arith}
use Rattle.std.proofs.lemmas.List.{take_all}
use Rattle.ql_tree.specs.Shapes.{have_types}
use Rattle.ql_tree.specs.declared.types.Shape.{Shape}
use Rattle.ql_tree.specs.declared.types.ExprType.{ExprType}

false_behind : (b c : Bool) → c ≡ false → (b && c) ≡ false
false_behind b c e = grind arith

short : (shapes : List Shape) (types : List ExprType) → length shapes < length types → have_types shapes types ≡ false
unfolding have_types
short [] [] less = absurd (omega arith)
short [] (t ∷ types) less = refl
short (s ∷ shapes) [] less = absurd (omega arith)
short (s ∷ shapes) (t ∷ types) less = false_behind _ (have_types shapes types) (short shapes types (omega arith))

pub too_few : (shapes : List Shape) (types : List ExprType) → length shapes < length types → have_types (take (length types) shapes) types ≡ false
too_few shapes types less = rw (take_all (length types) shapes (omega arith)) (short shapes types less)
