-- The candidates have all label sets on which the matchers hold.
use Rattle.std.proofs.Common.{◌∙◌, ap, List, sym, subst}
use Rattle.std.proofs.lemmas.Result.{IfOk-weaker}
use Rattle.op_base.specs.declared.matcher.Matcher.{Matcher}
use Rattle.srv_store.specs.Indexes.{asked_hold, numbers_where}
use Rattle.srv_store.specs.Runs.{AreFound, IsComplete}
use Rattle.srv_store.proofs.CandidateLemmas.{asked_complete}
use Rattle.srv_store.proofs.lookups.found_runs.Goals as goal

pub found_among-requires : goal.found_among-requires
found_among-requires c = subst (λ (ms : List Matcher). IsComplete c.args.keys.now.keys ms c.as_slice-3.result.now) (sym (c.in_ok-prepared.ensures ∙ c.as_slice.ensures))
    (asked_complete c.args.keys.now.keys c.args.matchers.now c.as_slice-3.result.now
    (c.as_slice-3.ensures ∙ c.in_ok-numbers.ensures ∙ ap (λ (ms : List Matcher). numbers_where (asked_hold ms) c.args.keys.now.keys) c.as_slice-2.ensures))

pub returns : goal.returns
returns c = IfOk-weaker c.found_among.result (AreFound c.args.keys.now.keys c.in_ok-prepared.prepared) (AreFound c.args.keys.now.keys c.args.matchers.now)
    (λ found told. subst (λ (ms : List Matcher). AreFound c.args.keys.now.keys ms found) (c.in_ok-prepared.ensures ∙ c.as_slice.ensures) told) c.found_among.ensures
