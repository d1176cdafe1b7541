-- Fields that are null count as absent, and a value that stands alone is the field's.
use Rattle.std.proofs.Common.{refl, sym, true≢false}
use Rattle.std.specs.Prelude.{◌≡◌, ℕ, List, Bool, true, false, Option, Some, None, is_some, option_and_then, unwrap_or, if◌then◌else◌}
use Rattle.std.specs.List.{list_all}
use Rattle.serde_json.specs.Data.{Data, null, boolean, number, string, array, object}
use Rattle.op_manifest.specs.Checks.{field, given}
use Rattle.op_manifest.specs.Trees.{named_parts}
use Rattle.op_input.specs.Keys.{is_null_or, only_field}

-- a value that isn't null, or null
pub null_or_given : (d : Data) → unwrap_or (given d) null ≡ d
null_or_given null = refl
null_or_given (boolean b) = refl
null_or_given (number n) = refl
null_or_given (string t) = refl
null_or_given (array ds) = refl
null_or_given (object ms) = refl

-- so too where there may be none
pub null_or_field : (d : Option Data) → unwrap_or (option_and_then given d) null ≡ unwrap_or d null
null_or_field None = refl
null_or_field (Some d) = null_or_given d

some_of : (alone : Bool) (d : Option Data) → is_some (if alone then d else None) ≡ true → (if alone then d else None) ≡ Some (unwrap_or d null)
some_of true (Some d) is = refl
some_of true None is = absurd (true≢false (sym is))
some_of false d is = absurd (true≢false (sym is))

-- the value of the one key
pub taken_alone : (name : List ℕ) (d : Data) → is_some (only_field name d) ≡ true → only_field name d ≡ Some (unwrap_or (field name d) null)
unfolding only_field
taken_alone name d is = some_of (list_all (is_null_or name) (named_parts d)) (field name d) is
