use Rattle.ql_eval.proofs.EnforcedLaws.{value-of-enforced-home}
use Rattle.ql_eval.proofs.enforced_alike.Goals as goal

pub returns : goal.returns
returns c = value-of-enforced-home
