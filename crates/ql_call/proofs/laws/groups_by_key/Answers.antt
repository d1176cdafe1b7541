use Rattle.ql_call.proofs.GroupLemmas.{groups-by-key}
use Rattle.ql_call.proofs.laws.groups_by_key.Goals as goal

pub returns : goal.returns
returns c = groups-by-key
