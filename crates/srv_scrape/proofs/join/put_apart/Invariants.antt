use Rattle.std.proofs.Common.{◌≡◌, take}
use Rattle.op_base.specs.Labels.{labels_with_all}
use Rattle.srv_scrape.specs.Joined as spec
use Rattle.srv_scrape.proofs.join.put_apart.Given as goal

abbrev pub invariant-loop-place : goal.invariant-loop-place
invariant-loop-place l = l.labels ≡ labels_with_all l.initial.labels (spec.apart l.target (take l.place l.scraped))
