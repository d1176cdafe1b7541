-- Fields that are read whole, as what their value is.
use Rattle.std.specs.Prelude.{ℕ, List, Option, option_map}
use Rattle.serde_json.specs.Data.{Data}
use Rattle.op_manifest.specs.Checks.{field}

-- what the value of a field is read as
unfoldable pub item_in : {X : Type 0} → (Data → X) → List ℕ → Data → Option X
item_in of name d = option_map of (field name d)
