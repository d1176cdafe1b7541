-- The entries of the readings so far were pushed.
use Rattle.std.proofs.Common.{◌≡◌, ◌++◌, map, take}
use Rattle.srv_store.specs.Runs as spec
use Rattle.srv_store.proofs.lookups.push_entries.Given as goal

abbrev pub invariant-loop-reading : goal.invariant-loop-reading
invariant-loop-reading l = l.entries ≡ l.initial.entries ++ map (spec.reading_entry l.labels) (take l.reading-index l.readings)
