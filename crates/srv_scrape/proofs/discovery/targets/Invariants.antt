use Rattle.std.proofs.Common.{◌≡◌, take}
use Rattle.std.specs.List.{filter_map}
use Rattle.srv_scrape.specs.Targets as spec
use Rattle.srv_scrape.proofs.discovery.targets.Given as goal

abbrev pub invariant-loop-address : goal.invariant-loop-address
invariant-loop-address l = l.targets ≡ filter_map (spec.target_at l.job) (take l.address-index l.address-items)
