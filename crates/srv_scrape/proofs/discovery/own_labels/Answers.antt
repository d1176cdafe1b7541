use Rattle.std.proofs.Common.{◌∙◌, [], ap, length, filter, arith, ◌≤◌}
use Rattle.std.proofs.lemmas.List.{take_all}
use Rattle.op_base.specs.Labels.{labels_with_all}
use Rattle.srv_scrape.specs.Targets as spec
use Rattle.op_relabel.proofs.LabelLemmas.{rebuilt}
use Rattle.srv_scrape.proofs.discovery.own_labels.Goals as goal

pub returns : goal.returns
returns c =
    let past : length c.args.labels.now ≤ c.loop-place.place = omega (arith, c.loop-place-test.false, c.len-place-end.ensures.len) in
    c.loop-place.invariant
    ∙ ap (λ labels. labels_with_all [] (filter spec.is_kept labels)) (take_all c.loop-place.place c.args.labels.now past)
    ∙ rebuilt spec.is_kept c.args.labels.now c.len-place-end.ensures.labels
