use Rattle.std.proofs.Common.{◌∙◌, ap}
use Rattle.serde_json.specs.Written.{has_float, compact_text}
use Rattle.op_json.proofs.Floats.{no_float}
use Rattle.op_json.proofs.written.text_of.Goals as goal

pub returns : goal.returns
returns c = λ j is. c.from_vec.ensures ∙ c.in_ok-to_vec.ensures.text (ap has_float is ∙ no_float j) ∙ ap compact_text is
