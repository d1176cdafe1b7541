use Rattle.op_base.proofs.PatternLemmas.{matched}
use Rattle.op_base.proofs.pattern.Pattern.matches.Goals as goal

pub returns : goal.returns
returns c = matched c.form_matches.result _ c.args.self.now c.args.value.now _ c.form_matches.ensures c.self.invariant c.self.view_is
