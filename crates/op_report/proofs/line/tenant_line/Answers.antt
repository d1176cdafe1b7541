use Rattle.op_report.proofs.LineLemmas.{namespace_clean, whole_line}
use Rattle.op_report.proofs.line.tenant_line.Goals as goal

pub returns-clause-one_line : goal.returns-clause-one_line
returns-clause-one_line c =
    whole_line c.line_of.result c.args.namespace.now c.args.view.now (namespace_clean c.args.namespace.now c.requires) c.line_of.ensures
