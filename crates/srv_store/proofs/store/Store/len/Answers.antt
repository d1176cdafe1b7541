use Rattle.std.proofs.Common.{subst}
use Rattle.srv_store.specs.StoreLaws.{IsTwinless}
use Rattle.srv_store.proofs.store.Store.len.Goals as goal

pub returns-clause-twinless : goal.returns-clause-twinless
returns-clause-twinless c = subst IsTwinless c.self.view_is c.self.invariant.2
