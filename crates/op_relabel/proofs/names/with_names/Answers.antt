use Rattle.std.proofs.Common.{◌∙◌, [], ap, length, filter, arith, ◌≤◌}
use Rattle.std.proofs.lemmas.List.{take_all}
use Rattle.op_base.specs.Labels.{labels_with_all}
use Rattle.op_relabel.specs.Actions.{is_named}
use Rattle.op_relabel.proofs.LabelLemmas.{rebuilt}
use Rattle.op_relabel.proofs.names.with_names.Goals as goal

pub returns : goal.returns
returns c =
    let past : length c.args.labels.now ≤ c.loop-place.place = omega (arith, c.loop-place-test.false, c.len-place-end.ensures.len) in
    c.loop-place.invariant
    ∙ ap (λ labels. labels_with_all [] (filter (is_named c.args.step.now) labels)) (take_all c.loop-place.place c.args.labels.now past)
    ∙ rebuilt (is_named c.args.step.now) c.args.labels.now c.len-place-end.ensures.labels
