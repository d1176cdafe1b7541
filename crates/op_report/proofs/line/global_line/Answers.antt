use Rattle.std.proofs.Common.{arith, codes}
use Rattle.op_report.proofs.LineLemmas.{whole_line}
use Rattle.op_report.proofs.line.global_line.Goals as goal

pub returns-clause-one_line : goal.returns-clause-one_line
returns-clause-one_line c = whole_line c.line_of.result (codes "-") c.args.view.now (omega arith, tt) c.line_of.ensures
