use Rattle.srv_store.proofs.LatestLemmas.{newest_answer}
use Rattle.srv_store.proofs.store.Store.newest.Goals as goal

pub returns : goal.returns
returns c = newest_answer c.newest_entries.result c.as_slice.result.now c.args.self.now c.args.matchers.now c.args.from.now c.args.to.now c.in_ok-found.found
    c.self.invariant.0 c.in_ok-found.ensures c.as_slice.ensures.value c.self.view_is c.newest_entries.ensures
