-- Facts about bytes, where they are told.
use Rattle.std.specs.Prelude.{ℕ, List, Option, None, Some}

-- where bytes are told before a call, they are told after it, and the two are related
abbrev pub Told : Option (List ℕ) → Option (List ℕ) → (List ℕ → List ℕ → Type 0) → Type 0
Told None after R = Unit {0}
Told (Some xs) None R = ⊥
Told (Some xs) (Some ys) R = R xs ys
