-- The unknown fields come first, then the breach of the namespace, and then those of the entries.
use Rattle.std.proofs.Common.{◌∙◌, [], map, ap, is_none, codes}
use Rattle.std.specs.Option.{option_or}
use Rattle.op_manifest.specs.Trees.{data_of}
use Rattle.op_manifest.specs.Checks.{Row, known, list, required, table}
use Rattle.op_manifest.specs.Shapes.{later}
use Rattle.op_manifest.proofs.ShapeLemmas.{later_first}
use Rattle.op_input.specs.Targets.{entry, namespace_row, targets_rows}
use Rattle.op_input.specs.Events.{targets, refused_targets, judged}
use Rattle.op_input.proofs.BreachLemmas.{apart_then}
use Rattle.op_input.proofs.targets.read_targets.Goals as goal

pub returns-clause-event : goal.returns-clause-event
unfolding table
returns-clause-event c =
    let d = data_of c.args.tree.now in
    let strays = known (map (λ (row : Row). row.name) targets_rows) [] d in
    let wrongs = namespace_row.wrongs [] d in
    let rest = required (list entry) (codes "set") [] d in
    let named = c.is_unbroken-is_named.ensures ∙ ap is_none (c.in_ok-namespace.ensures.0 ∙ later_first wrongs) in
    let both = c.or-found.ensures ∙ (λ i. option_or (c.in_ok-noted_known.ensures i) (c.in_ok-namespace.ensures.0 i)) in
    let found = c.in_ok-set.ensures.0 ∙ ap (λ noted. later noted rest) both ∙ apart_then strays wrongs rest in
    c.replacement.ensures.event
    ∙ λ i. judged (targets (c.in_ok-namespace.ensures.1 i) (c.in_ok-set.ensures.1 i)) (refused_targets (c.in_ok-namespace.ensures.1 i)) (named i) (found i)
