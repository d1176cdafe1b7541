use Rattle.op_report.proofs.ReadBackLemmas.{read_back}
use Rattle.op_report.proofs.read_back.reads_back.Goals as goal

pub returns : goal.returns
returns c = read_back
