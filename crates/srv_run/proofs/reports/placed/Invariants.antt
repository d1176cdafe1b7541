-- The entries so far, in label order.
use Rattle.std.proofs.Common.{◌≡◌, take}
use Rattle.srv_scrape.specs.Ticks.{by_labels}
use Rattle.srv_run.proofs.reports.placed.Given as goal

abbrev pub invariant-loop-entry : goal.invariant-loop-entry
invariant-loop-entry l = l.placed ≡ by_labels (take l.entry-index l.added)
