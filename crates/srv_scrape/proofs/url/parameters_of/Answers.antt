use Rattle.std.proofs.Common.{◌<◌, [], map, length, arith}
use Rattle.srv_scrape.specs.Targets as spec
use Rattle.srv_scrape.proofs.ListLemmas.{filter_map-next}
use Rattle.srv_scrape.proofs.url.parameters_of.Goals as goal

pub loop-place-preserved : goal.loop-place-preserved
loop-place-preserved c =
    let below : c.loop-place.place < length c.args.labels.now = omega (arith, c.loop-place-test.true, c.len-place-end.ensures.len) in
    filter_map-next spec.parameter_of c.args.labels.now c.loop-place.place (c.name_at.result.now, c.value_at.result.now) ([], [])
    (map (λ pair. (pair.0.now, pair.1.now)) c.loop-place.parameters.items) (map (λ pair. (pair.0.now, pair.1.now)) c.push_parameter.new.parameters.items)
    below (λ i. (c.name_at.ensures i, c.value_at.ensures i)) c.in_ok-push_parameter.ensures c.loop-place.invariant
