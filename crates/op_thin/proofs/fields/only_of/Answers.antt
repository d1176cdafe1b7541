use Rattle.std.proofs.Common.{◌≡◌, ◌≤◌, List, [], ◌∷◌, None, length, refl, sym, arith}
use Rattle.serde_json.specs.View.{items_view}
use Rattle.serde_json.specs.declared.value.Value.{Value}
use Rattle.op_thin.specs.ThinFields as spec
use Rattle.op_thin.proofs.fields.only_of.Goals as goal

none_of_two : (values : List Value) → 2 ≤ length values → spec.only_item (items_view values) ≡ None
none_of_two [] h = absurd (omega arith)
none_of_two (v ∷ []) h = absurd (omega arith)
none_of_two (v ∷ w ∷ values) h = refl

pub returns-in-len2-up : goal.returns-in-len2-up
returns-in-len2-up c = sym (none_of_two c.args.values.now c.in-len2-up.len_at_least)
