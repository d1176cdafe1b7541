use Rattle.std.proofs.Common.{◌∙◌}
use Rattle.srv_scrape.specs.Targets as spec
use Rattle.srv_scrape.proofs.ListLemmas.{filter_map-next}
use Rattle.srv_scrape.proofs.discovery.targets.Goals as goal

pub loop-address-preserved : goal.loop-address-preserved
loop-address-preserved c =
    filter_map-next (spec.target_at c.args.job.now) c.as_slice-address-items.result.now c.loop-address.address-index c.as_str.result.now
    c.address-item.result c.loop-address.targets c.push_target.new.targets c.loop-address-test.true (c.as_str.ensures ∙ c.address-item.is)
    c.in_ok-push_target.ensures c.loop-address.invariant
