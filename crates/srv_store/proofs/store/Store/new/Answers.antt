use Rattle.srv_store.proofs.TwinLemmas.{start_kept}
use Rattle.srv_store.proofs.store.Store.new.Goals as goal

pub invariant_of-result : goal.invariant_of-result
invariant_of-result c = start_kept c.new.result.keys c.new-2.result.items c.new-3.result c.new-4.result.items c.new.ensures.empty c.new-2.ensures.items c.new-3.ensures c.new-4.ensures.items
