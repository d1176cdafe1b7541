-- What was given so far, with what is left, is what all give.
use Rattle.std.proofs.Common.{◌≡◌, drop, fold}
use Rattle.ql_eval.specs.Absent as spec
use Rattle.ql_eval.specs.Holding.{given_as}
use Rattle.ql_eval.proofs.absent.absent_labels.Given as goal

abbrev pub invariant-loop-matcher : goal.invariant-loop-matcher
invariant-loop-matcher l = spec.given_labels l.asked ≡ fold spec.after_matcher (given_as l.given) (drop l.matcher-index l.asked)
