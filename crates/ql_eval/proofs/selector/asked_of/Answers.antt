use Rattle.std.proofs.Common.{◌∙◌, sym, ap}
use Rattle.std.proofs.lemmas.List.{take_all}
use Rattle.ql_eval.specs.Selected as spec
use Rattle.ql_eval.proofs.MatcherLemmas.{name-asked}
use Rattle.ql_eval.proofs.selector.asked_of.Goals as goal

pub returns : goal.returns
returns c =
    c.loop-matcher.invariant
    ∙ ap (spec.with_name c.args.name.now) (take_all c.loop-matcher.matcher-index c.args.matchers.now c.loop-matcher-test.false)
    ∙ sym (name-asked c.args.name.now c.args.matchers.now)
