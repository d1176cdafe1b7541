-- What the settings alone give to the configuration, after the reference of the Prometheus Operator. The Alertmanager
-- part waits for routing.
use Rattle.std.specs.Prelude.{[], Option, option_map}
use Rattle.cfg_types.specs.Jobs.{HasText}
use Rattle.cfg_types.specs.declared.config.PromPart.{PromPart}
use Rattle.kind_admin.specs.declared.admin.Settings.{Settings}
use Rattle.kind_admin.specs.declared.prometheus.PrometheusSpec.{PrometheusSpec}

-- the Prometheus part without jobs
abbrev pub part_of : PrometheusSpec → PromPart
part_of prometheus = record {
  evaluation_interval = prometheus.evaluation_interval;
  external_labels = prometheus.external_labels;
  scrape_interval = prometheus.scrape_interval;
  scrape_timeout = prometheus.scrape_timeout;
  jobs = [];
}

-- there is none without a Prometheus object
abbrev pub base_of : Settings → Option PromPart
base_of settings = option_map part_of settings.prometheus

-- the spans of a Prometheus object have texts
abbrev pub HasSettingSpans : PrometheusSpec → Type 0
HasSettingSpans prometheus =
    HasText prometheus.evaluation_interval × HasText prometheus.scrape_interval × HasText prometheus.scrape_timeout
