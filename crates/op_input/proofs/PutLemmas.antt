-- The manifest of a line, which is the value of its one key.
use Rattle.std.proofs.Common.{◌≡◌, true, ap, codes, sym}
use Rattle.std.specs.Prelude.{is_some, unwrap_or}
use Rattle.std.specs.Option.{option_map_or}
use Rattle.serde_json.specs.Data.{Data, null}
use Rattle.op_manifest.specs.Checks.{field}
use Rattle.op_input.specs.Events.{Event}
use Rattle.op_input.specs.InputLines.{with_key}
use Rattle.op_input.specs.Keys.{only_field}
use Rattle.op_input.specs.Puts.{put_of}
use Rattle.op_input.proofs.FieldLemmas.{taken_alone}

-- whatever else might be asked for
pub put_alone : (d : Data) (other : Event) → is_some (only_field (codes "put") d) ≡ true
    → put_of (unwrap_or (field (codes "put") d) null) ≡ with_key (codes "put") put_of d other
put_alone d other is = sym (ap (λ found. option_map_or put_of found other) (taken_alone (codes "put") d is))
