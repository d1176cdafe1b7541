use Rattle.std.proofs.Common.{◌≡◌, map, take}
use Rattle.serde_json.specs.View.{view}
use Rattle.op_json.specs.Json.{data_of}
use Rattle.cfg_types.specs.Steps.{step_json}
use Rattle.cfg_types.proofs.steps.step_values.Given as goal

abbrev pub invariant-loop-step : goal.invariant-loop-step
invariant-loop-step l = map view l.values.items ≡ map (λ one. data_of (step_json one)) (take l.step-index l.steps)
