-- The unknown fields come before the breaches of the key.
use Rattle.std.proofs.Common.{◌∙◌, [], map, ap, is_none}
use Rattle.std.specs.Option.{option_or}
use Rattle.op_manifest.specs.Trees.{data_of}
use Rattle.op_manifest.specs.Checks.{Row, known, rows_wrongs, table}
use Rattle.op_manifest.proofs.ShapeLemmas.{later_first}
use Rattle.op_input.specs.Deletes.{delete_rows}
use Rattle.op_input.specs.Events.{delete, refused_delete, judged}
use Rattle.op_input.proofs.BreachLemmas.{apart}
use Rattle.op_input.proofs.delete.read_delete.Goals as goal

pub returns-clause-event : goal.returns-clause-event
unfolding table
returns-clause-event c =
    let d = data_of c.args.tree.now in
    let strays = known (map (λ (row : Row). row.name) delete_rows) [] d in
    let wrongs = rows_wrongs delete_rows [] d in
    let named = c.is_unbroken-is_named.ensures ∙ ap is_none (c.in_ok-key.ensures.0 ∙ later_first wrongs) in
    let found = c.or.ensures ∙ (λ i. option_or (c.in_ok-noted_known.ensures i) (c.in_ok-key.ensures.0 i)) ∙ apart strays wrongs in
    c.deletion.ensures.event
    ∙ λ i. judged (delete (c.in_ok-key.ensures.1 i)) (refused_delete (c.in_ok-key.ensures.1 i)) (named i) (found i)
