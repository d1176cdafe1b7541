-- The table, row by row.
use Rattle.std.proofs.Common.{◌∙◌, ap, sym}
use Rattle.op_manifest.specs.Trees.{data_of}
use Rattle.op_manifest.proofs.ShapeLemmas.{later_none}
use Rattle.op_manifest.proofs.RowLemmas.{read_table, row, end}
use Rattle.kind_admin.specs.Exclusions.{exclusion_rows, exclusion_of, resource_of}
use Rattle.op_manifest.specs.Optional.{unless_empty}
use Rattle.kind_admin.proofs.exclusion.ExclusionItem.read.Goals as goal

pub returns : goal.returns
unfolding exclusion_of
returns c = (
  read_table exclusion_rows c.args.path.now (data_of c.args.tree.now) _ _ _ c.in_ok-noted_known.ensures
      (row (sym (later_none _))
      (row c.in_ok-resource.ensures.0
      (row c.in_ok-namespace.ensures.0
      (row c.in_ok-name.ensures.0
      end)))),
  λ i. record {
    resource = (c.resource_of.ensures ∙ ap resource_of c.in_ok-resource.ensures.1) i;
    namespace = c.in_ok-namespace.ensures.1 i;
    name = (c.unless_empty.ensures ∙ ap unless_empty c.in_ok-name.ensures.1) i;
  },
)
