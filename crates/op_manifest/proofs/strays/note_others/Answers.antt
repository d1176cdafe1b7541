-- One field is looked at after the other.
use Rattle.std.proofs.Common.{◌≤◌, ◌∙◌, length, refl, sym, ap, arith}
use Rattle.op_json.specs.Reading.{may_stand}
use Rattle.op_manifest.specs.declared.shape.TheConstants.ShapeRule.{UNKNOWN_FIELD}
use Rattle.op_manifest.specs.Checks.{names_in, strays}
use Rattle.op_manifest.specs.Shapes.{later, unless, path_to}
use Rattle.op_manifest.proofs.MapLemmas.{members_step, members_end}
use Rattle.op_manifest.proofs.strays.note_others.Goals as goal

pub loop-field-preserved : goal.loop-field-preserved
loop-field-preserved c =
    let names = names_in c.args.names.now in
    let path = c.args.path.now in
    let name = c.as_str-name.result.now in
    c.loop-field.invariant
    ∙ members_step (λ name d. unless (may_stand names name d) UNKNOWN_FIELD (path_to path name)) (strays names path) (λ name d ms. refl)
    c.args.fields.now c.loop-field.field-index c.field-item.result name c.loop-field.found c.tell_unless.new.found
    c.loop-field-test.true c.field-item.is c.as_str-name.ensures
    (c.in_ok-tell_unless.ensures ∙ ap (λ may. later c.loop-field.found (unless may UNKNOWN_FIELD (path_to path name))) c.may_stand_in-may_stand.ensures)

pub returns : goal.returns
returns c =
    let end : length c.args.fields.now ≤ c.loop-field.field-index = omega (arith, c.loop-field-test.false) in
    let names = names_in c.args.names.now in
    sym (c.loop-field.invariant ∙ members_end (strays names c.args.path.now) refl c.args.fields.now c.loop-field.field-index c.loop-field.found end)
