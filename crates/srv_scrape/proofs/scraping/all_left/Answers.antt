use Rattle.srv_scrape.specs.Scraped as spec
use Rattle.srv_scrape.proofs.ListLemmas.{filter_map-next}
use Rattle.srv_scrape.proofs.scraping.all_left.Goals as goal

pub loop-sample-preserved : goal.loop-sample-preserved
loop-sample-preserved c =
    filter_map-next (spec.left_of c.args.manner.now c.args.target.now) c.args.samples.now c.loop-sample.sample-index
    c.sample-item.result c.sample-item.result c.loop-sample.left c.push_left.new.left c.loop-sample-test.true c.sample-item.is
    c.in_ok-push_left.ensures c.loop-sample.invariant
