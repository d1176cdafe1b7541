-- All members are read.
use Rattle.std.proofs.Common.{◌≡◌, ◌∙◌, ap, sym}
use Rattle.serde_json.specs.Data.{object}
use Rattle.serde_json.specs.View.{view, members_view}
use Rattle.serde_json.proofs.Views.{view-Object}
use Rattle.op_manifest.proofs.TreeLemmas.{data-Fields, fields_are_members}
use Rattle.op_manifest.proofs.tree.+tree_from.Goals as goal

pub returns-in-None : goal.returns-in-None
returns-in-None t c =
    let read = fields_are_members c.loop-name.fields c.into_iter-name-iterator.result c.loop-name.name-iterator c.loop-name.invariant c.in-None.ensures.steps.0 in
    let gives : c.into_iter-name-iterator.result ≡ c.in-Object.members.entries = c.into_iter-name-iterator.ensures.into_iter_gives.0 in
    data-Fields c.loop-name.fields ∙ ap object (read ∙ ap members_view gives) ∙ sym (view-Object c.in-Object.members) ∙ sym (ap view c.in-Object.is)
