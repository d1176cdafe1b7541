-- The results so far, with those of what is left, are all.
use Rattle.std.proofs.Common.{◌≡◌, [], drop}
use Rattle.srv_rule.specs.Recorded as spec
use Rattle.srv_rule.proofs.results.gather.Given as goal

abbrev pub invariant-loop-element : goal.invariant-loop-element
invariant-loop-element l =
    spec.gathered l.rule.name l.rule.labels [] [] l.elements
    ≡ spec.gathered l.rule.name l.rule.labels [] l.results (drop l.element-index l.elements)
