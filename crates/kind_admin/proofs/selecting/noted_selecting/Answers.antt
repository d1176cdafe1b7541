-- Row by row.
use Rattle.op_manifest.specs.Trees.{data_of}
use Rattle.op_manifest.proofs.RowLemmas.{read_rows, row, end}
use Rattle.kind_admin.specs.PrometheusTables.{selecting_rows, selecting_of}
use Rattle.kind_admin.proofs.selecting.noted_selecting.Goals as goal

pub returns : goal.returns
unfolding selecting_of
returns c = (
  read_rows c.args.path.now (data_of c.args.tree.now) selecting_rows _ _
      (row c.in_ok-service_monitors.ensures.0
      (row c.in_ok-pod_monitors.ensures.0
      (row c.in_ok-probes.ensures.0
      (row c.in_ok-rules.ensures.0
      end)))),
  λ i. record {
    service_monitors = c.in_ok-service_monitors.ensures.1 i;
    pod_monitors = c.in_ok-pod_monitors.ensures.1 i;
    probes = c.in_ok-probes.ensures.1 i;
    rules = c.in_ok-rules.ensures.1 i;
  },
)
