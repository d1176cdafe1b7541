-- The table, row by row.
use Rattle.std.proofs.Common.{true}
use Rattle.op_manifest.specs.Trees.{data_of}
use Rattle.op_manifest.proofs.RowLemmas.{read_table, row, end}
use Rattle.std.specs.Prelude.{None}
use Rattle.op_manifest.specs.Routes.{webhook_rows, webhook, webhook_of}
use Rattle.op_manifest.proofs.receiver.read_base_webhook.Goals as goal

pub returns : goal.returns
unfolding webhook webhook_of
returns c = (
  read_table (webhook_rows true) c.args.path.now (data_of c.args.tree.now) _ _ _ c.in_ok-noted_known.ensures
      (row c.in_ok-url.ensures.0
      (row c.in_ok-send_resolved.ensures.0
      (row c.in_ok-max_alerts.ensures.0
      end))),
  λ i. record {
    url = c.in_ok-url.ensures.1 i;
    url_secret = None;
    send_resolved = c.in_ok-send_resolved.ensures.1 i;
    max_alerts = c.in_ok-max_alerts.ensures.1 i;
  },
)
