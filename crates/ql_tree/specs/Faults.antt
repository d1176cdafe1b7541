-- How the way down to a node without a type is carried up the tree.
use Rattle.std.specs.Prelude.{◌≡◌, ℕ, List, [], ◌∷◌, Result, Ok, Err}
use Rattle.op_base.specs.declared.memory.NoMemory.{NoMemory as NoMemoryError}
use Rattle.ql_tree.specs.Untyped.{Verdict, path_text}
use Rattle.ql_tree.specs.declared.typing.Trouble.{Trouble}
use Rattle.ql_tree.specs.declared.typing.Trouble.TheVariants.{Here, Below, NoMemory}

-- the node itself has no type, or one below it by this way; want of memory says nothing
abbrev pub IsFault : Verdict → Trouble → Type 0
IsFault verdict Here = verdict ≡ Err []
IsFault verdict (Below text) =
    (number : ℕ) × ((path : List ℕ) × ((verdict ≡ Err (number ∷ path)) × (text ≡ path_text (number ∷ path))))
IsFault verdict NoMemory = Unit {0}

-- the fault of a child with that number, seen from its parent
abbrev pub IsFaultAbove : ℕ → Trouble → Trouble → Type 0
IsFaultAbove number inner outer =
    (child parent : Verdict) → IsFault child inner → ((path : List ℕ) → child ≡ Err path → parent ≡ Err (number ∷ path))
    → IsFault parent outer

-- a path where there was memory for it
abbrev pub IsFaultOf : Result (List ℕ) NoMemoryError → Trouble → Type 0
IsFaultOf (Ok path) trouble = trouble ≡ Below path
IsFaultOf (Err refused) trouble = trouble ≡ NoMemory
