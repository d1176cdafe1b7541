-- What is left decides.
use Rattle.std.proofs.Common.{◌≡◌, drop}
use Rattle.srv_store.specs.Stores as spec
use Rattle.srv_store.proofs.lookups.all_hold.Given as goal

abbrev pub invariant-loop-matcher : goal.invariant-loop-matcher
invariant-loop-matcher l =
    spec.all_hold l.matchers l.labels ≡ spec.all_hold (drop l.matcher-index l.matchers) l.labels
