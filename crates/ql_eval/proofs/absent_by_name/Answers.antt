use Rattle.ql_eval.proofs.AbsentByNameLemmas.{absent-by-name}
use Rattle.ql_eval.proofs.absent_by_name.Goals as goal

pub returns : goal.returns
returns c = absent-by-name
