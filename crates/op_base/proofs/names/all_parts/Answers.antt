-- Each part that `split` gives is tested.
use Rattle.std.proofs.Common.{rules}
use Rattle.std.proofs.lemmas.Iterator.Search.{all_from_yields_List}
use Rattle.std.proofs.lemmas.Iterator.Splits.{YieldsList-from_slice_split}
use Rattle.op_base.specs.Names as spec
use Rattle.op_base.proofs.names.all_parts.Goals as goal

pub returns : goal.returns
returns c = all_from_yields_List spec.is_part _ _ c.all.result c.all.ensures.ran
    (YieldsList-from_slice_split _ spec.is_dot c.args.bytes.now c.split.ensures.rest c.split.ensures.done c.split.ensures.closure (λ x b q k. search rules))
    (λ x b q k. search rules)
