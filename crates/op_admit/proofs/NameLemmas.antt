-- Names of references that are put one list after the other.
use Rattle.std.proofs.Common.{◌≡◌, List, [], ◌∷◌, ◌++◌, refl}
use Rattle.op_base.specs.Maps.{Map, with_entry}
use Rattle.op_manifest.specs.declared.reference.SecretRef.{SecretRef}
use Rattle.op_admit.specs.SecretNames.{with_names}

pub names_then : (names : Map (Unit {0})) (these those : List SecretRef) → with_names names (these ++ those) ≡ with_names (with_names names these) those
names_then names [] those = refl
names_then names (ref ∷ these) those = names_then (with_entry names ref.name tt) these those
