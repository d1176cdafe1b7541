-- One entry is read after the other.
use Rattle.std.proofs.Common.{◌≤◌, ◌∙◌, length, refl, sym, arith}
use Rattle.op_manifest.specs.declared.shape.TheConstants.ShapeRule.{BAD_LABEL}
use Rattle.op_manifest.specs.Checks.{entry_wrongs, entries_wrongs, list, text}
use Rattle.op_manifest.specs.Maps.{is_any}
use Rattle.op_manifest.proofs.MapLemmas.{members_step, members_end}
use Rattle.kind_scrape.proofs.ParamLemmas.{params_step, params_end}
use Rattle.kind_scrape.proofs.params.read_params.Goals as goal

pub loop-field-preserved : goal.loop-field-preserved
loop-field-preserved c = record {
  wrongs = c.loop-field.invariant.wrongs
      ∙ members_step (entry_wrongs is_any BAD_LABEL (list text) c.args.path.now) (entries_wrongs is_any BAD_LABEL (list text) c.args.path.now) (λ name d ms. refl)
      c.args.fields.now c.loop-field.field-index c.field-item.result c.as_str.result.now c.loop-field.found c.read_param.new.found
      c.loop-field-test.true c.field-item.is c.as_str.ensures c.in_ok-read_param.ensures.wrongs;
  params = c.loop-field.invariant.params
      ∙ params_step c.args.fields.now c.loop-field.field-index c.field-item.result c.as_str.result.now c.loop-field.all c.read_param.new.all
      c.loop-field-test.true c.field-item.is c.as_str.ensures c.in_ok-read_param.ensures.params;
}

pub returns : goal.returns
returns c =
    let wrongs = entries_wrongs is_any BAD_LABEL (list text) c.args.path.now in
    let end : length c.args.fields.now ≤ c.loop-field.field-index = omega (arith, c.loop-field-test.false) in (
      sym (c.loop-field.invariant.wrongs ∙ members_end wrongs refl c.args.fields.now c.loop-field.field-index c.loop-field.found end),
      sym (c.loop-field.invariant.params ∙ params_end c.loop-field.all c.args.fields.now c.loop-field.field-index end),
    )
