use Rattle.std.proofs.Common.{◌∙◌, ◌<◌, ◌≤◌, ap, arith, length, []}
use Rattle.serde_json.specs.Data.{no_members, object, string}
use Rattle.serde_json.proofs.Views.{view-Object}
use Rattle.op_json.specs.Json.{text}
use Rattle.op_json.proofs.Fields.{put_next, all_put}
use Rattle.cfg_types.proofs.texts.texts_value.Goals as goal

pub loop-index-preserved : goal.loop-index-preserved
loop-index-preserved c =
    let within : c.loop-index.index < length c.args.texts.now = omega (arith, c.loop-index-test.true, c.len-index-end.ensures.len) in
    put_next (λ entry. (entry.0, text entry.1)) no_members c.args.texts.now c.loop-index.index ([], []) _ _ _ _
    within c.in_ok-put_text.ensures.ok c.loop-index.invariant c.name_at.ensures (ap string c.value_at.ensures)

pub returns : goal.returns
returns c =
    let past : length c.args.texts.now ≤ c.loop-index.index = omega (arith, c.loop-index-test.false, c.len-index-end.ensures.len) in
    view-Object c.loop-index.fields
    ∙ ap object (c.loop-index.invariant ∙ all_put (λ entry. (entry.0, text entry.1)) no_members c.args.texts.now c.loop-index.index past)
