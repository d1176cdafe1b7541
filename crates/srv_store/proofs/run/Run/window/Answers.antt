-- The window lies between its two places, if it has a length.
use Rattle.std.proofs.Common.{◌∙◌, ap, not, int_le, slice_range, subst}
use Rattle.srv_store.specs.Runs.{Reading, IsRun, front}
use Rattle.srv_store.proofs.WindowLemmas.{window_between, window_empty}
use Rattle.srv_store.proofs.run.Run.window.Goals as goal

pub returns-then-start-end : goal.returns-then-start-end
returns-then-start-end c =
    let same = c.as_slice-readings.ensures.value ∙ c.self.view_is in
    ap (λ run. slice_range run c.start_of-start.result c.end_of-end.result) same
    ∙ window_between c.args.from.now c.args.to.now c.args.self.now c.start_of-start.result c.end_of-end.result (subst IsRun c.self.view_is c.self.invariant)
    (c.start_of-start.ensures ∙ ap (front (λ (r : Reading). not (int_le c.args.from.now r.0.0))) same)
    (c.end_of-end.ensures.place ∙ ap (front (λ (r : Reading). int_le r.0.0 c.args.to.now)) same) c.if-start-end.true

pub returns-else-start-end : goal.returns-else-start-end
returns-else-start-end c =
    let same = c.as_slice-readings.ensures.value ∙ c.self.view_is in
    window_empty c.args.from.now c.args.to.now c.args.self.now c.start_of-start.result c.end_of-end.result (subst IsRun c.self.view_is c.self.invariant)
    (c.start_of-start.ensures ∙ ap (front (λ (r : Reading). not (int_le c.args.from.now r.0.0))) same)
    (c.end_of-end.ensures.place ∙ ap (front (λ (r : Reading). int_le r.0.0 c.args.to.now)) same) c.if-start-end.false
