use Rattle.op_base.proofs.EntryLemmas.{labels-empty}
use Rattle.op_base.proofs.labels.Labels.new.Goals as goal

pub invariant_of-result : goal.invariant_of-result
invariant_of-result c = labels-empty _ c.new.ensures.items
