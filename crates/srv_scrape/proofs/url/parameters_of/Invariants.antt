use Rattle.std.proofs.Common.{◌≡◌, map, take}
use Rattle.srv_scrape.specs.Targets as spec
use Rattle.srv_scrape.proofs.url.parameters_of.Given as goal

abbrev pub invariant-loop-place : goal.invariant-loop-place
invariant-loop-place l = map (λ pair. (pair.0.now, pair.1.now)) l.parameters.items ≡ spec.parameters_of (take l.place l.labels)
