-- What was found so far, with what is found of the rest, is what is found of all.
use Rattle.std.proofs.Common.{◌≡◌, fold, drop}
use Rattle.srv_store.specs.Runs as spec
use Rattle.srv_store.proofs.lookups.matching.Given as goal

abbrev pub invariant-loop-number : goal.invariant-loop-number
invariant-loop-number l =
    spec.matching l.keys l.matchers l.numbers ≡ fold (spec.with_match l.keys l.matchers) l.found (drop l.number-index l.numbers)
