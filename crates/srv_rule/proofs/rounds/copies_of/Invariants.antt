-- The copies so far.
use Rattle.std.proofs.Common.{◌≡◌, take}
use Rattle.srv_rule.proofs.rounds.copies_of.Given as goal

abbrev pub invariant-loop-labels : goal.invariant-loop-labels
invariant-loop-labels l = l.all ≡ take l.labels-index l.given
