-- What the calls do, a step at a time.
use Rattle.std.specs.Prelude.{ℕ, ℤ, List, [], ◌∷◌, ◌++◌}
use Rattle.std.specs.Int.{int_max, int_min, int_signum}
use Rattle.ql_call.specs.Calls.{size_of, between}
use Rattle.ql_call.specs.Elements.{Element}
use Rattle.ql_call.specs.Operators.{changed_to}
use Rattle.ql_call.specs.declared.changed.Changed.{Changed}
use Rattle.ql_call.specs.declared.values.Change.{Change}
use Rattle.ql_call.specs.declared.values.Change.TheVariants.{Size, Sign, AtLeast, AtMost, Between, Exactly}

-- what becomes of a value
abbrev pub change_of : Change → ℤ → ℤ
change_of Size n = size_of n
change_of Sign n = int_signum n
change_of (AtLeast low) n = int_max low n
change_of (AtMost high) n = int_min high n
change_of (Between low high) n = between low high n
change_of (Exactly m) n = m

-- an element whose labels stay
abbrev pub unchanged : Element → Changed
unchanged e = changed_to e.0 e.0 e.1

-- texts, each behind a separator
abbrev pub each_behind : List ℕ → List (List ℕ) → List ℕ
each_behind separator [] = []
each_behind separator (text ∷ texts) = separator ++ text ++ each_behind separator texts
