use Rattle.std.proofs.Common.{◌≡◌, map, take}
use Rattle.serde_json.specs.View.{view}
use Rattle.op_json.specs.Json.{data_of}
use Rattle.cfg_types.specs.Written.{group_json}
use Rattle.cfg_types.proofs.written.group_values.Given as goal

abbrev pub invariant-loop-group : goal.invariant-loop-group
invariant-loop-group l = map view l.values.items ≡ map (λ group. data_of (group_json group)) (take l.group-index l.groups)
