use Rattle.std.proofs.Common.{◌≤◌, length, arith}
use Rattle.op_relabel.specs.Actions.{mapped_label}
use Rattle.op_relabel.proofs.MapLemmas.{put-next, put-end}
use Rattle.op_relabel.proofs.names.mapped.Goals as goal

pub loop-place-preserved : goal.loop-place-preserved
loop-place-preserved c =
    put-next (mapped_label c.args.step.now) c.args.labels.now c.args.labels.now c.loop-place.left c.put_mapped.new.left c.loop-place.place
    c.name_at.result.now c.value_at.result.now (omega (arith, c.loop-place-test.true, c.len-place-end.ensures.len)) c.name_at.ensures c.value_at.ensures
    c.in_ok-put_mapped.ensures c.loop-place.invariant

pub returns : goal.returns
returns c =
    let past : length c.args.labels.now ≤ c.loop-place.place = omega (arith, c.loop-place-test.false, c.len-place-end.ensures.len) in
    put-end (mapped_label c.args.step.now) c.args.labels.now c.args.labels.now c.loop-place.left c.loop-place.place past c.loop-place.invariant
