-- Fields that have to stand, and what stands for one that is absent, which is a breach.
use Rattle.std.specs.Prelude.{ℕ, List, [], Option, unwrap_or}
use Rattle.serde_json.specs.Data.{Data, null}
use Rattle.op_manifest.specs.declared.reference.SecretRef.{SecretRef}
use Rattle.op_manifest.specs.Checks.{field}

-- what the value of a field is read as; one that is absent is read as null
unfoldable pub needed_in : {X : Type 0} → (Data → X) → List ℕ → Data → X
needed_in of name d = of (unwrap_or (field name d) null)

-- the reference, or one to nothing
abbrev pub reference_or_empty : Option SecretRef → SecretRef
reference_or_empty reference = unwrap_or reference (record { name = []; key = [] })
