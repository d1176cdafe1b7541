-- The table, row by row.
use Rattle.std.proofs.Common.{[], ◌∙◌, ap, codes, unwrap_or}
use Rattle.op_manifest.specs.Selectors.{expression_rows, requirement_of, values_beside, asked_by}
use Rattle.op_manifest.specs.Values.{text_of, items_in}
use Rattle.op_manifest.specs.declared.operator.Operator.TheVariants.{Exists}
use Rattle.op_manifest.specs.Shapes.{later}
use Rattle.op_manifest.specs.Trees.{data_of}
use Rattle.op_manifest.proofs.RowLemmas.{read_table, row, end}
use Rattle.op_manifest.proofs.selector.RequirementItem.read.Goals as goal

pub returns : goal.returns
unfolding requirement_of
returns c =
    let d = data_of c.args.tree.now in (
      read_table expression_rows c.args.path.now d _ _ _ c.in_ok-noted_known.ensures
          (row c.in_ok-key.ensures.0
          (row c.in_ok-operator.ensures.0
          (row (c.in_ok-requirement.ensures.0 ∙ ap (λ o. later c.required_item.new.found (values_beside o c.args.path.now d)) c.in_ok-operator.ensures.1)
          end))),
      c.in_ok-requirement.ensures.1
          ∙ (λ j. asked_by (unwrap_or (c.in_ok-operator.ensures.1 j) Exists)
          ((c.text_or_empty-key.ensures ∙ ap (λ k. unwrap_or k []) c.in_ok-key.ensures.1) j)
          (unwrap_or (items_in text_of (codes "values") d) [])),
    )
