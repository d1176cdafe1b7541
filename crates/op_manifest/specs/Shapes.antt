-- The rules on the shape of manifests and lines, and the breaches of them in reading order, of which the first
-- is told.
use Rattle.std.specs.Prelude.{ℕ, Bool, List, [], ◌∷◌, ◌++◌, Option, Some, None, Result, Ok, Err, ◌≡◌, codes, decimal, if◌then◌else◌}
use Rattle.op_manifest.specs.declared.shape.Shape.{Shape}
use Rattle.op_manifest.specs.declared.shape.ShapeFault.{ShapeFault}
use Rattle.op_manifest.specs.declared.shape.ShapeFault.TheVariants.{Broken, NoMemory}
use Rattle.op_manifest.specs.declared.shape.ShapeRule.{ShapeRule}

-- `S` and the number
abbrev pub rule_text : ShapeRule → List ℕ
rule_text rule = codes "S" ++ decimal rule.0

-- the path of an object's field
abbrev pub path_to : List ℕ → List ℕ → List ℕ
path_to [] name = name
path_to (b ∷ path) name = (b ∷ path) ++ (codes "." ++ name)

-- the path of a list's item
abbrev pub path_at : List ℕ → ℕ → List ℕ
path_at path index = path ++ codes "[" ++ decimal index ++ codes "]"

-- a rule that is broken at the path
abbrev pub broken : ShapeRule → List ℕ → Shape
broken rule path = record { rule = rule; path = path }

-- one breach
abbrev pub wrong : ShapeRule → List ℕ → List Shape
wrong rule path = broken rule path ∷ []

-- a breach, unless the test holds
abbrev pub unless : Bool → ShapeRule → List ℕ → List Shape
unless holds rule path = if holds then [] else wrong rule path

-- the breach that is told
unfoldable pub first : List Shape → Option Shape
first [] = None
first (shape ∷ shapes) = Some shape

-- the breach that is told where that one was met before these
unfoldable pub later : Option Shape → List Shape → Option Shape
later None wrongs = first wrongs
later (Some shape) wrongs = Some shape

-- what one of several readers did: it has noted the first of its breaches, unless one was noted before, and gives
-- the value
abbrev pub Adds : {X Y E : Type 0} → (X → Y) → Option Shape → Option Shape → Result X E → List Shape → Y → Type 0
Adds part old new (Ok x) wrongs value = (new ≡ later old wrongs) × (part x ≡ value)
Adds part old new (Err e) wrongs value = Unit {0}

-- what a reader that stands alone answers: the value where there is no breach, and else the first one
abbrev pub ReadsBy : {X Y : Type 0} → (X → Y) → Result X ShapeFault → List Shape → Y → Type 0
ReadsBy part (Ok x) wrongs value = (first wrongs ≡ None) × (part x ≡ value)
ReadsBy part (Err (Broken shape)) wrongs value = first wrongs ≡ Some shape
ReadsBy part (Err NoMemory) wrongs value = Unit {0}
