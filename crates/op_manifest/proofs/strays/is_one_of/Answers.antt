-- Each part that `split` gives is compared.
use Rattle.std.proofs.Common.{rules}
use Rattle.std.proofs.lemmas.Iterator.Search.{any_from_yields_List}
use Rattle.std.proofs.lemmas.Iterator.Splits.{YieldsList-from_slice_split}
use Rattle.op_json.specs.Reading.{is_text}
use Rattle.op_manifest.specs.Checks.{is_space}
use Rattle.op_manifest.proofs.strays.is_one_of.Goals as goal

pub returns : goal.returns
returns c = any_from_yields_List (is_text c.args.name.now) _ _ c.any.result c.any.ensures.ran
    (YieldsList-from_slice_split _ is_space c.args.names.now c.split.ensures.rest c.split.ensures.done c.split.ensures.closure (λ x b q k. search rules))
    (λ x b q k. search rules)
