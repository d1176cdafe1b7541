use Rattle.srv_store.proofs.RangedLemmas.{ranged_answer}
use Rattle.srv_store.proofs.store.Store.ranged.Goals as goal

pub returns : goal.returns
returns c = ranged_answer c.ranged_series.result c.as_slice.result.now c.args.self.now c.args.matchers.now c.args.from.now c.args.to.now c.in_ok-found.found
    c.self.invariant.0 c.in_ok-found.ensures c.as_slice.ensures.value c.self.view_is c.ranged_series.ensures
