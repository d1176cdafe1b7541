-- One entry is read after the other.
use Rattle.std.proofs.Common.{◌≤◌, ◌∙◌, length, refl, sym, arith}
use Rattle.op_manifest.specs.Checks.{entry_wrongs, entries_wrongs, worded}
use Rattle.op_manifest.proofs.MapLemmas.{members_step, members_end, entries_step, entries_end}
use Rattle.op_manifest.proofs.maps.read_entries.Goals as goal

pub loop-field-preserved : goal.loop-field-preserved
loop-field-preserved g c =
    let K = g.K.TextForm in
    let V = g.V.TextForm in
    let check = worded V.broken V.passes in
    record {
      wrongs = c.loop-field.invariant.wrongs
          ∙ members_step (entry_wrongs K.passes K.broken check c.args.path.now) (entries_wrongs K.passes K.broken check c.args.path.now) (λ name d ms. refl)
          c.args.fields.now c.loop-field.field-index c.field-item.result c.as_str.result.now c.loop-field.found c.read_entry.new.found
          c.loop-field-test.true c.field-item.is c.as_str.ensures c.in_ok-read_entry.ensures.wrongs;
      map = c.loop-field.invariant.map
          ∙ entries_step c.args.fields.now c.loop-field.field-index c.field-item.result c.as_str.result.now c.loop-field.all c.read_entry.new.all
          c.loop-field-test.true c.field-item.is c.as_str.ensures c.in_ok-read_entry.ensures.map;
    }

pub returns : goal.returns
returns g c =
    let K = g.K.TextForm in
    let V = g.V.TextForm in
    let wrongs = entries_wrongs K.passes K.broken (worded V.broken V.passes) c.args.path.now in
    let end : length c.args.fields.now ≤ c.loop-field.field-index = omega (arith, c.loop-field-test.false) in (
      sym (c.loop-field.invariant.wrongs ∙ members_end wrongs refl c.args.fields.now c.loop-field.field-index c.loop-field.found end),
      sym (c.loop-field.invariant.map ∙ entries_end c.loop-field.all c.args.fields.now c.loop-field.field-index end),
    )
