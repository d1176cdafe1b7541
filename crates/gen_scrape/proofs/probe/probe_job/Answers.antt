-- The job is that of the probe, and so its spans are those in force.
use Rattle.std.proofs.Common.{rules, sym, subst}
use Rattle.cfg_types.specs.Jobs.{HasJobSpans}
use Rattle.gen_scrape.proofs.SpanLemmas.{spans_have}
use Rattle.gen_scrape.proofs.probe.probe_job.Goals as goal

pub returns-clause-job : goal.returns-clause-job
returns-clause-job c = search rules

pub returns-clause-spans : goal.returns-clause-spans
returns-clause-spans c =
    λ given. subst HasJobSpans (sym (returns-clause-job c)) (spans_have c.args.prometheus.now c.args.probe.now.spec.timing given)
