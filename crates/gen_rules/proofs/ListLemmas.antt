-- A map of a map is one map.
use Rattle.std.proofs.Common.{◌≡◌, List, [], ◌∷◌, map, refl, ap}

pub map_twice : {A B C : Type 0} (f : B → C) (v : A → B) (xs : List A) → map f (map v xs) ≡ map (λ x. f (v x)) xs
map_twice f v [] = refl
map_twice f v (x ∷ xs) = ap (λ rest. f (v x) ∷ rest) (map_twice f v xs)
