use Rattle.op_base.proofs.EntryLemmas.{labels-without_entry}
use Rattle.op_base.proofs.labels.Labels.remove.Goals as goal

pub invariant_of-self : goal.invariant_of-self
invariant_of-self c = labels-without_entry _ _ _ c.self.invariant c.remove.ensures
