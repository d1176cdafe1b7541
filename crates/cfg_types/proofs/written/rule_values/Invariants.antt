use Rattle.std.proofs.Common.{◌≡◌, map, take}
use Rattle.serde_json.specs.View.{view}
use Rattle.op_json.specs.Json.{data_of}
use Rattle.cfg_types.specs.Written.{rule_json}
use Rattle.cfg_types.proofs.written.rule_values.Given as goal

abbrev pub invariant-loop-rule : goal.invariant-loop-rule
invariant-loop-rule l = map view l.values.items ≡ map (λ rule. data_of (rule_json rule)) (take l.rule-index l.rules)
