-- The name and the matchers so far.
use Rattle.std.proofs.Common.{◌≡◌, take}
use Rattle.ql_eval.specs.Selected as spec
use Rattle.ql_eval.proofs.selector.asked_of.Given as goal

abbrev pub invariant-loop-matcher : goal.invariant-loop-matcher
invariant-loop-matcher l = l.asked ≡ spec.with_name l.name (take l.matcher-index l.matchers)
