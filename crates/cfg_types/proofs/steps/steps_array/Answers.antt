use Rattle.std.proofs.Common.{◌∙◌, ap, sym, map}
use Rattle.serde_json.specs.Data.{array}
use Rattle.serde_json.specs.View as shown
use Rattle.serde_json.proofs.Views.{view-Array}
use Rattle.op_json.specs.Json.{items_of, elements_of}
use Rattle.op_json.proofs.Fields.{array_of_each}
use Rattle.cfg_types.specs.Steps.{step_json}
use Rattle.cfg_types.proofs.steps.steps_array.Goals as goal

pub returns : goal.returns
returns c = view-Array c.in_ok-step_values.field-0
    ∙ ap array (ap shown.items_of c.in_ok-step_values.ensures ∙ sym (array_of_each step_json c.as_slice.result.now)
    ∙ ap (λ steps. items_of (elements_of (map step_json steps))) c.as_slice.ensures.steps)
