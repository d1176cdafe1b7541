-- The table, part by part.
use Rattle.std.specs.Prelude.{[], ◌∷◌, ◌++◌, codes}
use Rattle.op_manifest.specs.Checks.{may, whole}
use Rattle.op_manifest.specs.Trees.{data_of}
use Rattle.op_manifest.proofs.RowLemmas.{read_rows, row, end}
use Rattle.kind_scrape.specs.Credentials.{secret_rows}
use Rattle.kind_scrape.specs.EndpointTables.{timing_rows}
use Rattle.kind_scrape.specs.ProbeTables.{asked_rows, probe_rows, probe_spec_of}
use Rattle.kind_scrape.specs.Relabelings.{steps}
use Rattle.kind_scrape.proofs.PartLemmas as parts
use Rattle.kind_scrape.proofs.probe_spec.ProbeSpecItem.read.Goals as goal

pub returns : goal.returns
unfolding probe_spec_of
returns c =
    let path = c.args.path.now in
    let d = data_of c.args.tree.now in
    let limit = may (codes "sampleLimit") whole ∷ [] in
    let behind_timing = may (codes "metricRelabelings") steps ∷ secret_rows ++ limit in (
      parts.whole path d probe_rows _ _ _ c.in_ok-noted_known.ensures
          (parts.part path d asked_rows (timing_rows ++ behind_timing) _ _ _
          (read_rows path d asked_rows _ _
          (row c.in_ok-job_name.ensures.0
          (row c.in_ok-prober.ensures.0
          (row c.in_ok-module_name.ensures.0
          (row c.in_ok-targets.ensures.0
          end)))))
          (parts.part path d timing_rows behind_timing _ _ _ c.in_ok-timing.ensures.0
          (parts.one path d (may (codes "metricRelabelings") steps) (secret_rows ++ limit) _ _ _ c.in_ok-metric_relabelings.ensures.0
          (parts.part path d secret_rows limit _ _ _ c.in_ok-credentials.ensures.0
          (read_rows path d limit _ _ (row c.in_ok-sample_limit.ensures.0 end)))))),
      λ i. record {
        job_name = c.in_ok-job_name.ensures.1 i;
        prober = c.in_ok-prober.ensures.1 i;
        module_name = c.in_ok-module_name.ensures.1 i;
        targets = c.in_ok-targets.ensures.1 i;
        timing = c.in_ok-timing.ensures.1 i;
        metric_relabelings = c.in_ok-metric_relabelings.ensures.1 i;
        credentials = c.in_ok-credentials.ensures.1 i;
        sample_limit = c.in_ok-sample_limit.ensures.1 i;
      },
    )
