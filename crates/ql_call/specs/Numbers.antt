-- The numbers of elements and of samples: things, each with a number.
use Rattle.std.specs.Prelude.{ℤ, List, map}

-- the numbers of things
abbrev pub numbers_in : {X : Type 0} → List (X × ℤ) → List ℤ
numbers_in things = map (λ thing. thing.1) things
