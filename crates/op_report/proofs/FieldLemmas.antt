-- Fields of an object, put one after the other.
use Rattle.std.proofs.Common.{refl}
use Rattle.std.specs.Prelude.{◌≡◌, ℕ, List, [], ◌∷◌, ◌++◌}
use Rattle.serde_json.specs.Data.{Members, put}
use Rattle.op_json.specs.Json.{Json, data_of, members_after, fields_of}

-- those of two lists
pub after_both : (ms : Members) (these those : List (List ℕ × Json))
    → members_after ms (fields_of (these ++ those)) ≡ members_after (members_after ms (fields_of these)) (fields_of those)
after_both ms [] those = refl
after_both ms (field ∷ these) those = after_both (put field.0 (data_of field.1) ms) these those
