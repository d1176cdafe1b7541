use Rattle.std.proofs.Common.{◌∙◌, ap, sym, map}
use Rattle.serde_json.specs.Data.{array}
use Rattle.serde_json.specs.View as shown
use Rattle.serde_json.proofs.Views.{view-Array}
use Rattle.op_json.specs.Json.{items_of, elements_of}
use Rattle.op_json.proofs.Fields.{array_of_each}
use Rattle.op_report.proofs.listed.array_value.Goals as goal

pub returns : goal.returns
returns g c = view-Array c.in_ok-values_of.field-0
    ∙ ap array (ap shown.items_of c.in_ok-values_of.ensures ∙ sym (array_of_each g.T.Listed.json c.as_slice.result.now)
    ∙ ap (λ items. items_of (elements_of (map g.T.Listed.json items))) c.as_slice.ensures)
