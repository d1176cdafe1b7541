use Rattle.op_base.proofs.EntryLemmas.{map-put}
use Rattle.op_base.proofs.tags.Tags.set.Goals as goal

pub invariant_of-self : goal.invariant_of-self
invariant_of-self c = map-put _ _ _ _ _ c.put.ensures.ok c.put.ensures.err c.self.invariant
