use Rattle.ql_call.proofs.SharingLemmas.{sets-by-key}
use Rattle.ql_call.proofs.laws.sets_by_key.Goals as goal

pub returns : goal.returns
returns c = sets-by-key
