-- The jobs of Prometheus, and their JSON.
use Rattle.std.specs.Prelude.{ℕ, List, [], ◌∷◌, ◌++◌, Option, Some, None, codes, pos, ◌≤ℤ◌}
use Rattle.std.specs.Option.{option_map_or}
use Rattle.op_base.specs.declared.span.Span.{Span}
use Rattle.op_json.specs.Json.{Json, flag, text, whole, array_of, object_of}
use Rattle.cfg_types.specs.declared.config.Config.{Config}
use Rattle.cfg_types.specs.declared.job.Job.{Job}
use Rattle.cfg_types.specs.declared.job.StaticConfig.{StaticConfig}
use Rattle.cfg_types.specs.Steps.{steps_field}
use Rattle.cfg_types.specs.Texts.{labels_field, list_json, span_json}

-- the jobs of a configuration, which has none without a Prometheus
abbrev pub jobs_of : Config → List Job
jobs_of config = option_map_or (λ part. part.jobs) config.prometheus []

-- {"labels":LABELS,"targets":[ADDRESS]}
abbrev pub static_json : StaticConfig → Json
static_json config = object_of (labels_field config.labels ++ (codes "targets", list_json config.targets) ∷ [])

-- the fields of a job up to its name
abbrev pub name_fields : Job → List (List ℕ × Json)
name_fields job = (codes "honor_labels", flag job.honor_labels) ∷ (codes "job_name", text job.job_name) ∷ []

-- the field `sample_limit`, left out where there is none
abbrev pub limit_field : Option ℕ → List (List ℕ × Json)
limit_field None = []
limit_field (Some limit) = (codes "sample_limit", whole (pos limit)) ∷ []

-- the fields of a job from its scheme on
abbrev pub scrape_fields : Job → List (List ℕ × Json)
scrape_fields job =
    (codes "scheme", text job.scheme)
    ∷ (codes "scrape_interval", span_json job.scrape_interval)
    ∷ (codes "scrape_timeout", span_json job.scrape_timeout)
    ∷ (codes "static_configs", array_of (static_json job.static_configs ∷ []))
    ∷ []

-- the fields of a job from its sample limit on
abbrev pub rest_fields : Job → List (List ℕ × Json)
rest_fields job = limit_field job.sample_limit ++ scrape_fields job

-- {"honor_labels":FLAG,"job_name":NAME,"metric_relabel_configs":[STEP],"metrics_path":PATH,
-- "relabel_configs":[STEP],"sample_limit":LIMIT,"scheme":SCHEME,"scrape_interval":SPAN,
-- "scrape_timeout":SPAN,"static_configs":[STATIC]}
abbrev pub job_json : Job → Json
job_json job = object_of
    (name_fields job
    ++ steps_field (codes "metric_relabel_configs") job.metric_relabel_configs
    ++ ((codes "metrics_path", text job.metrics_path)
    ∷ (steps_field (codes "relabel_configs") job.relabel_configs
    ++ rest_fields job)))

-- a span that has a text: 0 or more
abbrev pub HasText : Span → Type 0
HasText span = pos 0 ≤ℤ span.0

-- the spans of a job have texts
abbrev pub HasJobSpans : Job → Type 0
HasJobSpans job = HasText job.scrape_interval × HasText job.scrape_timeout
