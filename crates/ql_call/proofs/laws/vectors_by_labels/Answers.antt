use Rattle.ql_call.proofs.PlacedLemmas.{vectors-by-labels}
use Rattle.ql_call.proofs.laws.vectors_by_labels.Goals as goal

pub returns : goal.returns
returns c = vectors-by-labels
