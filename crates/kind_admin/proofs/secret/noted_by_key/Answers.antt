-- `data` comes before `stringData`.
use Rattle.std.proofs.Common.{◌++◌, [], ◌∙◌}
use Rattle.op_base.specs.Maps.{text_cmp, in_order}
use Rattle.op_manifest.specs.Trees.{data_of}
use Rattle.op_manifest.proofs.RowLemmas.{read_rows, row, end}
use Rattle.kind_admin.specs.Secrets.{secret_rows, decoded_entries}
use Rattle.kind_admin.proofs.secret.noted_by_key.Goals as goal

pub returns : goal.returns
returns c = (
  read_rows [] (data_of c.args.tree.now) secret_rows _ _
      (row c.in_ok-note_encoded.ensures
      (row c.in_ok-strings.ensures.0
      end)),
  c.in_ok-by_key.ensures ∙ (λ i. in_order text_cmp (decoded_entries (c.in_ok-encoded.ensures i) ++ c.in_ok-strings.ensures.1 i)),
)
