-- The entries so far, with those of what is left, are all.
use Rattle.std.proofs.Common.{◌≡◌, ◌++◌, drop}
use Rattle.srv_store.specs.LabelMaps.{stale_entries}
use Rattle.srv_store.proofs.stale.push_stale.Given as goal

abbrev pub invariant-loop-labels : goal.invariant-loop-labels
invariant-loop-labels g l =
    l.initial.entries ++ stale_entries l.t l.before l.given ≡ l.entries ++ stale_entries l.t (drop l.labels-index l.before) l.given
