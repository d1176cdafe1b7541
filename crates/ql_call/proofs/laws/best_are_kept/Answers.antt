use Rattle.ql_call.proofs.KeptLemmas.{best-are-kept}
use Rattle.ql_call.proofs.laws.best_are_kept.Goals as goal

pub returns : goal.returns
returns c = best-are-kept
