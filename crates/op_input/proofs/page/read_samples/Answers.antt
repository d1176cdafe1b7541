-- One sample is read after the other.
use Rattle.std.proofs.Common.{◌≤◌, ◌∙◌, length, sym, arith}
use Rattle.op_manifest.proofs.ItemLemmas.{wrongs_step, wrongs_end, items_step, items_end}
use Rattle.op_input.specs.Samples.{sample, sample_of}
use Rattle.op_input.proofs.page.read_samples.Goals as goal

pub loop-index-preserved : goal.loop-index-preserved
loop-index-preserved c = record {
  wrongs = c.loop-index.invariant.wrongs
      ∙ wrongs_step sample c.args.path.now c.as_str.result.now c.args.items.now c.loop-index.index c.index-items-index.result
      c.loop-index.found c.noted_sample.new.found c.loop-index-test.true c.index-items-index.is (c.as_str.ensures ∙ c.in_ok-path.ensures) c.in_ok-noted_sample.ensures.0;
  samples = c.loop-index.invariant.samples
      ∙ items_step sample_of c.loop-index.all c.push.new.self c.args.items.now c.loop-index.index c.index-items-index.result
      c.in_ok-noted_sample.field-0 c.loop-index-test.true c.index-items-index.is c.in_ok-noted_sample.ensures.1 c.in_ok-push.ensures.ok;
}

pub returns : goal.returns
returns c =
    let end : length c.args.items.now ≤ c.loop-index.index = omega (arith, c.loop-index-test.false) in (
      sym (c.loop-index.invariant.wrongs ∙ wrongs_end sample c.args.path.now c.args.items.now c.loop-index.index c.loop-index.found end),
      sym (c.loop-index.invariant.samples ∙ items_end sample_of c.loop-index.all c.args.items.now c.loop-index.index end),
    )
