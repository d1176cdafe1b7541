use Rattle.ql_call.proofs.PlacedLemmas.{partners-by-key}
use Rattle.ql_call.proofs.laws.partners_by_key.Goals as goal

pub returns : goal.returns
returns c = partners-by-key
