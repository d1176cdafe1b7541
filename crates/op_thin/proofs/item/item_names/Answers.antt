use Rattle.op_thin.proofs.NamedLemmas.{named}
use Rattle.op_thin.proofs.item.item_names.Goals as goal

pub returns : goal.returns
returns c = named
