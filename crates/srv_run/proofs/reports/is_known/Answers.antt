-- A name that is found is known.
use Rattle.std.proofs.Common.{ap, is_some, ◌∙◌}
use Rattle.srv_run.proofs.KnownLemmas.{found-among}
use Rattle.srv_run.proofs.reports.is_known.Goals as goal

pub returns-in-Some : goal.returns-in-Some
returns-in-Some c = ap is_some c.in-Some.ensures ∙ found-among c.args.known.now c.args.name.now

pub returns-in-None : goal.returns-in-None
returns-in-None c = ap is_some c.in-None.ensures ∙ found-among c.args.known.now c.args.name.now
