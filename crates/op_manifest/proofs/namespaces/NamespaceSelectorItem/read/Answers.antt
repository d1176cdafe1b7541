-- The table, row by row.
use Rattle.std.proofs.Common.{[], ◌∙◌, ap, false, unwrap_or}
use Rattle.op_manifest.specs.Namespaces.{namespaces_rows, namespaces_of}
use Rattle.op_manifest.specs.Trees.{data_of}
use Rattle.op_manifest.proofs.RowLemmas.{read_table, row, end}
use Rattle.op_manifest.proofs.namespaces.NamespaceSelectorItem.read.Goals as goal

pub returns : goal.returns
unfolding namespaces_of
returns c = (
  read_table namespaces_rows c.args.path.now (data_of c.args.tree.now) _ _ _ c.in_ok-noted_known.ensures
      (row c.in_ok-any.ensures.0
      (row c.in_ok-match_names.ensures.0
      end)),
  λ i. record {
    any = (c.unwrap_or.ensures ∙ ap (λ any. unwrap_or any false) c.in_ok-any.ensures.1) i;
    match_names = (c.or_none.ensures ∙ ap (λ names. unwrap_or names []) c.in_ok-match_names.ensures.1) i;
  },
)
