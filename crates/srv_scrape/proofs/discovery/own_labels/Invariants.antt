use Rattle.std.proofs.Common.{◌≡◌, [], filter, take}
use Rattle.op_base.specs.Labels.{labels_with_all}
use Rattle.srv_scrape.specs.Targets as spec
use Rattle.srv_scrape.proofs.discovery.own_labels.Given as goal

abbrev pub invariant-loop-place : goal.invariant-loop-place
invariant-loop-place l = l.own ≡ labels_with_all [] (filter spec.is_kept (take l.place l.labels))
