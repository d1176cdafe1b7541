use Rattle.std.proofs.Common.{◌≡◌, map, take}
use Rattle.serde_json.specs.View.{view}
use Rattle.op_json.specs.Json.{data_of}
use Rattle.cfg_types.specs.Jobs.{job_json}
use Rattle.cfg_types.proofs.jobs.job_values.Given as goal

abbrev pub invariant-loop-job : goal.invariant-loop-job
invariant-loop-job l = map view l.values.items ≡ map (λ one. data_of (job_json one)) (take l.job-index l.jobs)
