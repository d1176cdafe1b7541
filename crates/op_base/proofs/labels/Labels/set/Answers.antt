-- An empty value removes the name, any other is put.
use Rattle.std.proofs.Common.{ap}
use Rattle.op_base.proofs.EntryLemmas.{labels-without_entry, labels-put, some_byte}
use Rattle.op_base.proofs.labels.Labels.set.Goals as goal

pub invariant_of-self : goal.invariant_of-self
invariant_of-self c = labels-without_entry _ _ _ c.self.invariant c.remove.ensures

pub invariant_of-self-2 : goal.invariant_of-self-2
invariant_of-self-2 c =
    labels-put _ _ _ _ _ c.put.ensures.ok c.put.ensures.err
    (some_byte _ _ c.if-is_empty.ensures (ap (λ entry. entry.1) c.in_ok-entry.ensures)) c.self.invariant
