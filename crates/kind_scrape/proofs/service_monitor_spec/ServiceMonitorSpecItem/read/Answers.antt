-- The table, row by row.
use Rattle.std.proofs.Common.{[], ◌∙◌, ap, unwrap_or}
use Rattle.op_manifest.specs.Trees.{data_of}
use Rattle.op_manifest.proofs.RowLemmas.{read_table, row, end}
use Rattle.kind_scrape.specs.MonitorTables.{service_monitor_rows, service_monitor_spec_of}
use Rattle.kind_scrape.proofs.service_monitor_spec.ServiceMonitorSpecItem.read.Goals as goal

pub returns : goal.returns
unfolding service_monitor_spec_of
returns c = (
  read_table service_monitor_rows c.args.path.now (data_of c.args.tree.now) _ _ _ c.in_ok-noted_known.ensures
      (row c.in_ok-job_label.ensures.0
      (row c.in_ok-labels.ensures.0
      (row c.in_ok-endpoints.ensures.0
      (row c.in_ok-selector.ensures.0
      (row c.in_ok-namespace_selector.ensures.0
      (row c.in_ok-sample_limit.ensures.0
      end)))))),
  λ i. record {
    job_label = c.in_ok-job_label.ensures.1 i;
    target_labels = (c.or_none.ensures ∙ ap (λ labels. unwrap_or labels []) c.in_ok-labels.ensures.1) i;
    endpoints = c.in_ok-endpoints.ensures.1 i;
    selector = c.in_ok-selector.ensures.1 i;
    namespace_selector = c.in_ok-namespace_selector.ensures.1 i;
    sample_limit = c.in_ok-sample_limit.ensures.1 i;
  },
)
