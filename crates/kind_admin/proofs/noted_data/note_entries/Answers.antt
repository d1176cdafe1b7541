-- One entry is looked at after the other.
use Rattle.std.proofs.Common.{◌≤◌, ◌∙◌, length, refl, sym, arith}
use Rattle.op_manifest.specs.declared.shape.TheConstants.ShapeRule.{BAD_CHOICE, BAD_LABEL}
use Rattle.op_manifest.specs.Checks.{entry_wrongs, entries_wrongs, worded}
use Rattle.op_manifest.specs.Maps.{is_any}
use Rattle.op_manifest.proofs.MapLemmas.{members_step, members_end}
use Rattle.kind_admin.specs.Secrets.{is_base64}
use Rattle.kind_admin.proofs.noted_data.note_entries.Goals as goal

pub loop-field-preserved : goal.loop-field-preserved
loop-field-preserved c =
    let check = worded BAD_CHOICE is_base64 in
    c.loop-field.invariant
    ∙ members_step (entry_wrongs is_any BAD_LABEL check c.args.path.now) (entries_wrongs is_any BAD_LABEL check c.args.path.now) (λ name d ms. refl)
    c.args.fields.now c.loop-field.field-index c.field-item.result c.as_str.result.now c.loop-field.found c.note_entry.new.found
    c.loop-field-test.true c.field-item.is c.as_str.ensures c.in_ok-note_entry.ensures

pub returns : goal.returns
returns c =
    let wrongs = entries_wrongs is_any BAD_LABEL (worded BAD_CHOICE is_base64) c.args.path.now in
    let end : length c.args.fields.now ≤ c.loop-field.field-index = omega (arith, c.loop-field-test.false) in
    sym (c.loop-field.invariant ∙ members_end wrongs refl c.args.fields.now c.loop-field.field-index c.loop-field.found end)
