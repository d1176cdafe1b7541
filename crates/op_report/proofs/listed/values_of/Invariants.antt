use Rattle.std.proofs.Common.{◌≡◌, map, take}
use Rattle.serde_json.specs.View.{view}
use Rattle.op_json.specs.Json.{data_of}
use Rattle.op_report.proofs.listed.values_of.Given as goal

abbrev pub invariant-loop-item : goal.invariant-loop-item
invariant-loop-item g l = map view l.values.items ≡ map (λ one. data_of (g.T.Listed.json one)) (take l.item-index l.items)
