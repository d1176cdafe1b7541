-- The table, row by row.
use Rattle.std.proofs.Common.{[], ◌∙◌, ap, unwrap_or}
use Rattle.op_manifest.specs.Trees.{data_of}
use Rattle.op_manifest.proofs.RowLemmas.{read_table, row, end}
use Rattle.op_manifest.specs.Routes.{receiver_rows, receiver, receiver_of}
use Rattle.op_manifest.proofs.receiver.read_receiver.Goals as goal

pub returns : goal.returns
unfolding receiver receiver_of
returns c = (
  read_table (receiver_rows c.args.base) c.args.path.now (data_of c.args.tree.now) _ _ _ c.in_ok-noted_known.ensures
      (row c.in_ok-given_name.ensures.0
      (row c.in_ok-webhooks.ensures.0
      end)),
  λ i. record {
    name = (c.text_or_empty-name.ensures ∙ ap (λ name. unwrap_or name []) c.in_ok-given_name.ensures.1) i;
    webhook_configs = (c.or_none-webhook_configs.ensures ∙ ap (λ all. unwrap_or all []) c.in_ok-webhooks.ensures.1) i;
  },
)
