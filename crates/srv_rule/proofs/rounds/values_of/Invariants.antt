-- The entries so far.
use Rattle.std.proofs.Common.{◌≡◌, take}
use Rattle.srv_rule.specs.Rounds as spec
use Rattle.srv_rule.proofs.rounds.values_of.Given as goal

abbrev pub invariant-loop-element : goal.invariant-loop-element
invariant-loop-element l = l.entries ≡ spec.value_entries l.t (take l.element-index l.elements)
