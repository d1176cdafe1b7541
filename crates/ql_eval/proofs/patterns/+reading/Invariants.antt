-- The store stays.
use Rattle.std.proofs.Common.{◌≡◌}
use Rattle.ql_eval.proofs.patterns.+reading.Given as goal

abbrev pub invariant-read_below-loop-expr : goal.invariant-read_below-loop-expr
invariant-read_below-loop-expr l = l.store ≡ l.initial.store
