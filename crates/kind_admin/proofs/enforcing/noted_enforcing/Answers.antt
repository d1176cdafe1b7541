-- Row by row.
use Rattle.std.proofs.Common.{[], ◌∙◌, ap, unwrap_or}
use Rattle.op_manifest.specs.Trees.{data_of}
use Rattle.op_manifest.proofs.RowLemmas.{read_rows, row, end}
use Rattle.op_manifest.specs.Optional.{unless_empty}
use Rattle.kind_admin.specs.PrometheusTables.{enforcing_rows, enforcing_of}
use Rattle.kind_admin.proofs.enforcing.noted_enforcing.Goals as goal

pub returns : goal.returns
unfolding enforcing_of
returns c = (
  read_rows c.args.path.now (data_of c.args.tree.now) enforcing_rows _ _
      (row c.in_ok-label.ensures.0
      (row c.in_ok-strict.ensures.0
      (row c.in_ok-ignore.ensures.0
      (row c.in_ok-honor.ensures.0
      (row c.in_ok-file_access.ensures.0
      (row c.in_ok-sample_limit.ensures.0
      (row c.in_ok-excluded.ensures.0
      (row c.in_ok-note_one_shard.ensures
      end)))))))),
  λ i. record {
    namespace_label = (c.unless_empty.ensures ∙ ap unless_empty c.in_ok-label.ensures.1) i;
    label_error_on_replace = c.in_ok-strict.ensures.1 i;
    ignore_namespace_selectors = c.in_ok-ignore.ensures.1 i;
    override_honor_labels = c.in_ok-honor.ensures.1 i;
    file_access = c.in_ok-file_access.ensures.1 i;
    sample_limit = c.in_ok-sample_limit.ensures.1 i;
    excluded = (c.or_none.ensures ∙ ap (λ excluded. unwrap_or excluded []) c.in_ok-excluded.ensures.1) i;
  },
)
