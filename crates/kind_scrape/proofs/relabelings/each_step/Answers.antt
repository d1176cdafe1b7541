-- One step is read after the other.
use Rattle.std.proofs.Common.{◌≤◌, ◌∙◌, length, sym, arith}
use Rattle.op_manifest.proofs.ItemLemmas.{wrongs_step, wrongs_end, items_step, items_end}
use Rattle.kind_scrape.specs.Relabelings.{step, step_of}
use Rattle.kind_scrape.proofs.relabelings.each_step.Goals as goal

pub loop-index-preserved : goal.loop-index-preserved
loop-index-preserved c = record {
  wrongs = c.loop-index.invariant.wrongs
      ∙ wrongs_step step c.args.path.now c.as_str.result.now c.args.items.now c.loop-index.index c.index-items-index.result
      c.loop-index.found c.read_step.new.found c.loop-index-test.true c.index-items-index.is (c.as_str.ensures ∙ c.in_ok-path.ensures) c.in_ok-read_step.ensures.0;
  items = c.loop-index.invariant.items
      ∙ items_step step_of c.loop-index.all c.push.new.self c.args.items.now c.loop-index.index c.index-items-index.result
      c.in_ok-read_step.field-0 c.loop-index-test.true c.index-items-index.is c.in_ok-read_step.ensures.1 c.in_ok-push.ensures.ok;
}

pub returns : goal.returns
returns c =
    let end : length c.args.items.now ≤ c.loop-index.index = omega (arith, c.loop-index-test.false) in (
      sym (c.loop-index.invariant.wrongs ∙ wrongs_end step c.args.path.now c.args.items.now c.loop-index.index c.loop-index.found end),
      sym (c.loop-index.invariant.items ∙ items_end step_of c.loop-index.all c.args.items.now c.loop-index.index end),
    )
