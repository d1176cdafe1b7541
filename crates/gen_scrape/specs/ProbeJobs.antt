-- The job of a Probe, after the reference of the Prometheus Operator: the prober is scraped in place of each target,
-- which it gets as a parameter. The name of the enforced label stands where the object is enforced; its value is the
-- object's namespace.
use Rattle.std.specs.Prelude.{ℕ, false, List, [], ◌∷◌, ◌++◌, Option, Some, None, codes, is_some, option_and_then, if◌then◌else◌}
use Rattle.std.specs.Option.{option_map_or}
use Rattle.op_base.specs.declared.key.Key.{Key}
use Rattle.op_base.specs.declared.label_names.TheConstants.{NAMESPACE_LABEL}
use Rattle.op_base.specs.Labels.{Texts}
use Rattle.op_base.specs.Maps.{value_at, with_entry}
use Rattle.op_relabel.specs.Checks.{AllPass}
use Rattle.op_relabel.specs.Steps.{copy_step, put_step}
use Rattle.op_relabel.specs.declared.step.Step.{Step}
use Rattle.cfg_types.specs.declared.job.Job.{Job}
use Rattle.cfg_types.specs.declared.job.StaticConfig.{StaticConfig}
use Rattle.kind_admin.specs.declared.prometheus.PrometheusSpec.{PrometheusSpec}
use Rattle.kind_scrape.specs.declared.probe.ProbeObject.{ProbeObject}
use Rattle.kind_scrape.specs.declared.probe_spec.ProbeSpec.{ProbeSpec}
use Rattle.kind_scrape.specs.declared.probe_targets.StaticConfig.{StaticConfig as StaticTargets}
use Rattle.kind_scrape.specs.declared.scheme.Scheme.{Scheme}
use Rattle.kind_scrape.specs.declared.scheme.Scheme.TheVariants.{Http, Https}
use Rattle.gen_scrape.specs.Dollars.{doubled_dollars}
use Rattle.gen_scrape.specs.InForce.{interval_in_force, timeout_in_force, limit_in_force}

-- the name of a probe's job: probe/NAMESPACE/NAME
abbrev pub job_name : Key → List ℕ
job_name key = codes "probe/" ++ key.namespace ++ codes "/" ++ key.name

-- how a scheme is written
abbrev pub scheme_text : Scheme → List ℕ
scheme_text Http = codes "http"
scheme_text Https = codes "https"

-- the static targets of a probe, where it has some
abbrev pub static_in : ProbeSpec → Option StaticTargets
static_in spec = option_and_then (λ targets. targets.static_config) spec.targets

-- their addresses
abbrev pub addresses_in : ProbeSpec → List (List ℕ)
addresses_in spec = option_map_or (λ config. config.addresses) (static_in spec) []

-- the labels that they are given
abbrev pub labels_in : ProbeSpec → Texts
labels_in spec = option_map_or (λ config. config.labels) (static_in spec) []

-- the steps that they are given
abbrev pub relabelings_in : ProbeSpec → List Step
relabelings_in spec = option_map_or (λ config. config.relabeling_configs) (static_in spec) []

-- the labels with `namespace` among them; one that stands there stays, an empty one too
abbrev pub with_namespace : List ℕ → Texts → Texts
with_namespace namespace labels =
    if is_some (value_at labels NAMESPACE_LABEL.now) then labels else with_entry labels NAMESPACE_LABEL.now namespace

-- the static targets with their labels
abbrev pub static_of : ProbeObject → StaticConfig
static_of probe = record {
  labels = with_namespace probe.key.namespace (labels_in probe.spec);
  targets = addresses_in probe.spec;
}

-- where the object is enforced, the step that gives the enforced label the object's namespace
abbrev pub enforced_steps : Option (List ℕ) → List ℕ → List Step
enforced_steps None namespace = []
enforced_steps (Some label) namespace = put_step label namespace ∷ []

-- where a job name is given, the step that puts it
abbrev pub job_steps : Option (List ℕ) → List Step
job_steps None = []
job_steps (Some name) = put_step (codes "job") (doubled_dollars name) ∷ []

-- the address of a target is the prober's parameter and the instance, and the prober is asked in its place
abbrev pub prober_steps : ProbeSpec → List Step
prober_steps spec =
    copy_step (codes "__address__") (codes "__param_target")
    ∷ copy_step (codes "__param_target") (codes "instance")
    ∷ put_step (codes "__address__") (doubled_dollars spec.prober.url)
    ∷ []

-- the steps of the targets; the enforced one is the last
abbrev pub target_steps : Option (List ℕ) → ProbeObject → List Step
target_steps enforced probe =
    prober_steps probe.spec
    ++ job_steps probe.spec.job_name
    ++ relabelings_in probe.spec
    ++ enforced_steps enforced probe.key.namespace

-- the steps of the samples; the enforced one is the last
abbrev pub sample_steps : Option (List ℕ) → ProbeObject → List Step
sample_steps enforced probe = probe.spec.metric_relabelings ++ enforced_steps enforced probe.key.namespace

-- the job of a probe
abbrev pub probe_job_of : PrometheusSpec → Option (List ℕ) → ProbeObject → Job
probe_job_of prometheus enforced probe = record {
  honor_labels = false;
  job_name = job_name probe.key;
  metric_relabel_configs = sample_steps enforced probe;
  metrics_path = probe.spec.prober.path;
  relabel_configs = target_steps enforced probe;
  sample_limit = limit_in_force prometheus probe.spec.sample_limit;
  scheme = scheme_text probe.spec.prober.scheme;
  scrape_interval = interval_in_force prometheus probe.spec.timing;
  scrape_timeout = timeout_in_force prometheus probe.spec.timing;
  static_configs = static_of probe;
}

-- each step that a probe writes passes
abbrev pub StepsPass : ProbeSpec → Type 0
StepsPass spec = AllPass (relabelings_in spec) × AllPass spec.metric_relabelings
