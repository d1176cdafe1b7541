use Rattle.ql_call.proofs.LeastClashLemmas.{clashes-are-least}
use Rattle.ql_call.proofs.laws.clashes_are_least.Goals as goal

pub returns : goal.returns
returns c = clashes-are-least
