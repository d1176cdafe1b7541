use Rattle.std.proofs.Common.{Err, ap, ◌∙◌}
use Rattle.ql_call.proofs.label_calls.pattern_of.Goals as goal

pub returns-in-Ok : goal.returns-in-Ok
returns-in-Ok c = c.in-Ok.ensures.text

pub returns-in-Err-BadPattern : goal.returns-in-Err-BadPattern
returns-in-Err-BadPattern c = c.read.ensures.refused (c.in-Err-BadPattern.is ∙ ap Err c.in-Err-BadPattern.field-0-is)
