use Rattle.operator_cli.proofs.EndingLemmas.{not_too_many}
use Rattle.operator_cli.proofs.compiling.compile.Goals as goal

pub returns-in-Ok-clause-within : goal.returns-in-Ok-clause-within
returns-in-Ok-clause-within g c = not_too_many _ c.args.dir.now c.in-Ok.files _ _ c.in-Ok.ensures.files c.in-Ok.ensures.within

pub returns-in-Ok-clause-too_many : goal.returns-in-Ok-clause-too_many
returns-in-Ok-clause-too_many g c = not_too_many _ c.args.dir.now c.in-Ok.files _ _ c.in-Ok.ensures.files c.in-Ok.ensures.within
