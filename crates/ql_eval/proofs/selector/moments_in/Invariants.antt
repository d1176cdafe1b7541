use Rattle.std.proofs.Common.{◌≡◌, ◌++◌, drop}
use Rattle.ql_eval.specs.Selected as spec
use Rattle.ql_eval.proofs.selector.moments_in.Given as goal

abbrev pub invariant-loop-entry : goal.invariant-loop-entry
invariant-loop-entry l = spec.moments_in l.entries ≡ l.moments ++ spec.moments_in (drop l.entry-index l.entries)
