use Rattle.op_base.proofs.EntryLemmas.{map-empty}
use Rattle.op_base.proofs.tags.Tags.new.Goals as goal

pub invariant_of-result : goal.invariant_of-result
invariant_of-result c = map-empty _ c.new.ensures.items
