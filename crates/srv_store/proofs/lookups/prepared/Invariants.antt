-- What was read so far are the first matchers.
use Rattle.std.proofs.Common.{◌≡◌, take}
use Rattle.srv_store.proofs.lookups.prepared.Given as goal

abbrev pub invariant-loop-matcher : goal.invariant-loop-matcher
invariant-loop-matcher l = l.all ≡ take l.matcher-index l.matchers
