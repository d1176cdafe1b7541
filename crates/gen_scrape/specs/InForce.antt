-- What is in force for the scrapes of an object, after the reference of the Prometheus Operator: what the object says,
-- else what the Prometheus object says for all.
use Rattle.std.specs.Prelude.{ℕ, zero, suc, min, int_le, Option, Some, None, IfSome, unwrap_or, if◌then◌else◌}
use Rattle.op_base.specs.declared.span.Span.{Span}
use Rattle.cfg_types.specs.Jobs.{HasText}
use Rattle.kind_admin.specs.declared.prometheus.PrometheusSpec.{PrometheusSpec}
use Rattle.kind_scrape.specs.declared.handling.Timing.{Timing}

-- the shorter of two spans
abbrev pub shorter : Span → Span → Span
shorter one other = if int_le one.0 other.0 then one else other

-- how often is scraped: as the object says, else as the Prometheus object does
abbrev pub interval_in_force : PrometheusSpec → Timing → Span
interval_in_force prometheus timing = unwrap_or timing.interval prometheus.scrape_interval

-- how long a scrape may take: as the object says, else as the Prometheus object does, but at most the interval
abbrev pub timeout_in_force : PrometheusSpec → Timing → Span
timeout_in_force prometheus timing =
    unwrap_or timing.scrape_timeout (shorter prometheus.scrape_timeout (interval_in_force prometheus timing))

-- a limit of 0 is none
abbrev pub set_limit : Option ℕ → Option ℕ
set_limit None = None
set_limit (Some zero) = None
set_limit (Some (suc n)) = Some (suc n)

-- the smaller of the limits that there are
abbrev pub smaller : Option ℕ → Option ℕ → Option ℕ
smaller None other = other
smaller (Some one) None = Some one
smaller (Some one) (Some other) = Some (min one other)

-- how many samples a scrape may leave: what the object says or what is enforced upon all, whichever is smaller
abbrev pub limit_in_force : PrometheusSpec → Option ℕ → Option ℕ
limit_in_force prometheus own = smaller (set_limit own) (set_limit prometheus.enforced_sample_limit)

-- the spans that are given have texts: those of the Prometheus object, and the object's own
abbrev pub HasGivenSpans : PrometheusSpec → Timing → Type 0
HasGivenSpans prometheus timing =
    HasText prometheus.scrape_interval × HasText prometheus.scrape_timeout × IfSome timing.interval HasText × IfSome timing.scrape_timeout HasText
