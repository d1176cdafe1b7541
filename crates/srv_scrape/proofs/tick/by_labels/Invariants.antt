use Rattle.std.proofs.Common.{◌≡◌, take}
use Rattle.srv_scrape.specs.Ticks as spec
use Rattle.srv_scrape.proofs.tick.by_labels.Given as goal

abbrev pub invariant-loop-entry : goal.invariant-loop-entry
invariant-loop-entry l = l.placed ≡ spec.by_labels (take l.entry-index l.entries)
