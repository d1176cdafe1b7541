use Rattle.std.proofs.Common.{◌≡◌, take}
use Rattle.srv_scrape.specs.Joined as spec
use Rattle.srv_scrape.proofs.join.clashing.Given as goal

abbrev pub invariant-loop-place : goal.invariant-loop-place
invariant-loop-place l = l.placed.entries ≡ spec.clashing l.target (take l.place l.scraped)
