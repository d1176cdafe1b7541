-- Each namespace is told of its share.
use Rattle.std.proofs.Common.{◌∙◌}
use Rattle.std.proofs.lemmas.Result.{IfOk-weaker}
use Rattle.srv_run.proofs.LineLemmas.{told_lines}
use Rattle.srv_run.proofs.reports.tenant_reports.Goals as goal

pub returns : goal.returns
returns c = IfOk-weaker c.shared_reports.result _ _
    (λ reports is. told_lines c.args.failed c.args.added c.args.t c.in_ok-rules.rules c.in_ok-entries.entries c.as_slice.result.now _ reports
    c.in_ok-rules.ensures c.in_ok-entries.ensures (c.as_slice.ensures ∙ c.in_ok-names.ensures.keys) is)
    c.shared_reports.ensures
