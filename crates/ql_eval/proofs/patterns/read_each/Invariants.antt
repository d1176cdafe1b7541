-- The store stays.
use Rattle.std.proofs.Common.{◌≡◌}
use Rattle.ql_eval.proofs.patterns.read_each.Given as goal

abbrev pub invariant-loop-matcher : goal.invariant-loop-matcher
invariant-loop-matcher l = l.store ≡ l.initial.store
