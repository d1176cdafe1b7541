use Rattle.std.proofs.Common.{◌≡◌, ◌++◌, map}
use Rattle.srv_scrape.specs.Scraped as spec
use Rattle.srv_scrape.proofs.scraping.push_entries.Given as goal

abbrev pub invariant-loop-sample : goal.invariant-loop-sample
invariant-loop-sample l =
    goal.iterator-loop-sample.can_next l.sample-iterator ×
    goal.iterator-loop-sample.is_finite l.sample-iterator ×
    (l.initial.entries ++ map (spec.entry_of l.t) l.initial.sample-iterator.rest.items
    ≡ l.entries ++ map (spec.entry_of l.t) l.sample-iterator.rest.items)
