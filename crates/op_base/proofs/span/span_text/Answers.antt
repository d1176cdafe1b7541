use Rattle.std.proofs.Common.{rules}
use Rattle.op_base.proofs.SpanReadLemmas.{read_again}
use Rattle.op_base.proofs.span.span_text.Goals as goal

pub returns-clause-read_again : goal.returns-clause-read_again
returns-clause-read_again c = read_again c.written.result c.args.span c.requires (search rules)
