use Rattle.std.proofs.Common.{◌≡◌, map, take}
use Rattle.serde_json.specs.View.{view}
use Rattle.op_json.specs.Json.{text, data_of}
use Rattle.cfg_types.proofs.texts.list_values.Given as goal

abbrev pub invariant-loop-text : goal.invariant-loop-text
invariant-loop-text l = map view l.values.items ≡ map (λ one. data_of (text one)) (take l.text-index l.texts)
