-- Spans that are in force have texts where the given ones have.
use Rattle.std.proofs.Common.{Bool, true, false, Option, Some, None}
use Rattle.std.specs.Prelude.{IfSome, unwrap_or, int_le, if◌then◌else◌}
use Rattle.op_base.specs.declared.span.Span.{Span}
use Rattle.cfg_types.specs.Jobs.{HasText}
use Rattle.kind_admin.specs.declared.prometheus.PrometheusSpec.{PrometheusSpec}
use Rattle.kind_scrape.specs.declared.handling.Timing.{Timing}
use Rattle.gen_scrape.specs.InForce.{shorter, interval_in_force, timeout_in_force, HasGivenSpans}

given_or : (own : Option Span) (default : Span) → IfSome own HasText → HasText default → HasText (unwrap_or own default)
given_or None default own_has has = has
given_or (Some own) default own_has has = own_has

chosen : (is_first : Bool) (one other : Span) → HasText one → HasText other → HasText (if is_first then one else other)
chosen true one other one_has other_has = one_has
chosen false one other one_has other_has = other_has

interval_has : (prometheus : PrometheusSpec) (timing : Timing) → HasGivenSpans prometheus timing → HasText (interval_in_force prometheus timing)
interval_has prometheus timing given = given_or timing.interval prometheus.scrape_interval given.2 given.0

timeout_has : (prometheus : PrometheusSpec) (timing : Timing) → HasGivenSpans prometheus timing → HasText (timeout_in_force prometheus timing)
timeout_has prometheus timing given =
    given_or timing.scrape_timeout (shorter prometheus.scrape_timeout (interval_in_force prometheus timing)) given.3
    (chosen (int_le prometheus.scrape_timeout.0 (interval_in_force prometheus timing).0) prometheus.scrape_timeout (interval_in_force prometheus timing) given.1 (interval_has prometheus timing given))

pub spans_have : (prometheus : PrometheusSpec) (timing : Timing) → HasGivenSpans prometheus timing
    → HasText (interval_in_force prometheus timing) × HasText (timeout_in_force prometheus timing)
spans_have prometheus timing given = (interval_has prometheus timing given, timeout_has prometheus timing given)
