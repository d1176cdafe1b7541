use Rattle.ql_call.proofs.LabelValueLemmas.{labels-by-name}
use Rattle.ql_call.proofs.laws.labels_by_name.Goals as goal

pub returns : goal.returns
returns c = labels-by-name
