use Rattle.std.proofs.Common.{◌≡◌, take}
use Rattle.srv_scrape.specs.Scraped as spec
use Rattle.srv_scrape.proofs.scraping.all_left.Given as goal

abbrev pub invariant-loop-sample : goal.invariant-loop-sample
invariant-loop-sample l = l.left ≡ spec.all_left l.manner l.target (take l.sample-index l.samples)
