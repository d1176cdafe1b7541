-- The samples so far, with those of the rest, are all.
use Rattle.std.proofs.Common.{◌≡◌, ◌++◌, drop}
use Rattle.srv_store.specs.Runs as spec
use Rattle.srv_store.proofs.lookups.samples_of.Given as goal

abbrev pub invariant-loop-reading : goal.invariant-loop-reading
invariant-loop-reading l = spec.samples_in l.readings ≡ l.samples ++ spec.samples_in (drop l.reading-index l.readings)
