use Rattle.op_report.proofs.ReadBackLemmas.{last_line}
use Rattle.op_report.proofs.read_back.keeps_last_line.Goals as goal

pub returns : goal.returns
returns c = last_line
