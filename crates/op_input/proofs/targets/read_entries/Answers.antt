-- One entry is read after the other.
use Rattle.std.proofs.Common.{◌≤◌, ◌∙◌, length, sym, arith}
use Rattle.op_manifest.proofs.ItemLemmas.{wrongs_step, wrongs_end, items_step, items_end}
use Rattle.op_input.specs.Targets.{entry, entry_of}
use Rattle.op_input.proofs.targets.read_entries.Goals as goal

pub loop-index-preserved : goal.loop-index-preserved
loop-index-preserved c = record {
  wrongs = c.loop-index.invariant.wrongs
      ∙ wrongs_step entry c.args.path.now c.as_str.result.now c.args.items.now c.loop-index.index c.index-items-index.result
      c.loop-index.found c.noted_entry.new.found c.loop-index-test.true c.index-items-index.is (c.as_str.ensures ∙ c.in_ok-path.ensures) c.in_ok-noted_entry.ensures.0;
  entries = c.loop-index.invariant.entries
      ∙ items_step entry_of c.loop-index.all c.push.new.self c.args.items.now c.loop-index.index c.index-items-index.result
      c.in_ok-noted_entry.field-0 c.loop-index-test.true c.index-items-index.is c.in_ok-noted_entry.ensures.1 c.in_ok-push.ensures.ok;
}

pub returns : goal.returns
returns c =
    let end : length c.args.items.now ≤ c.loop-index.index = omega (arith, c.loop-index-test.false) in (
      sym (c.loop-index.invariant.wrongs ∙ wrongs_end entry c.args.path.now c.args.items.now c.loop-index.index c.loop-index.found end),
      sym (c.loop-index.invariant.entries ∙ items_end entry_of c.loop-index.all c.args.items.now c.loop-index.index end),
    )
