-- One entry is put after the other.
use Rattle.std.proofs.Common.{◌≤◌, ◌∙◌, length, sym, arith}
use Rattle.kind_admin.proofs.EntryLemmas.{decoded_step, decoded_end}
use Rattle.kind_admin.proofs.decoded.put_decoded.Goals as goal

pub loop-index-preserved : goal.loop-index-preserved
loop-index-preserved c =
    c.loop-index.invariant
    ∙ decoded_step c.args.entries.now c.loop-index.all c.put_one.new.all c.loop-index.index c.name_at.result.now c.value_at.result.now (omega (arith, c.loop-index-test.true, c.len-index-end.ensures.len)) c.name_at.ensures c.value_at.ensures c.in_ok-put_one.ensures

pub returns : goal.returns
returns c =
    let end : length c.args.entries.now ≤ c.loop-index.index = omega (arith, c.loop-index-test.false, c.len-index-end.ensures.len) in
    sym (c.loop-index.invariant ∙ decoded_end c.args.entries.now c.loop-index.all c.loop-index.index end)
