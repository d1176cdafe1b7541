use Rattle.srv_store.proofs.GreatestLemmas.{newest-are-latest}
use Rattle.srv_store.proofs.laws.newest_are_latest.Goals as goal

pub returns : goal.returns
returns c = newest-are-latest
