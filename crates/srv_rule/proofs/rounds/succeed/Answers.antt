-- What is added are the values, then the stale entries.
use Rattle.std.proofs.Common.{[], ◌++◌, unwrap_or, subst, ap, ◌∙◌}
use Rattle.std.proofs.lemmas.Result.{on_ok_weaker}
use Rattle.srv_store.specs.Stores.{AddsPrefix, with_all}
use Rattle.srv_store.specs.LabelMaps.{stale_entries}
use Rattle.srv_rule.specs.Rounds.{value_entries, last_of}
use Rattle.srv_rule.proofs.RunLemmas.{all_stored, behind_more, on_err_anyway}
use Rattle.srv_rule.proofs.rounds.succeed.Goals as goal

pub returns-in_err-added-clause-err : goal.returns-in_err-added-clause-err
returns-in_err-added-clause-err c =
    let values = c.in_ok-entries.ensures ∙ ap (value_entries c.args.t) (c.as_slice.ensures ∙ c.in_ok-elements.ensures) in
    let stale = c.in_ok-stale.ensures ∙ ap (λ id. stale_entries c.args.t (unwrap_or (last_of c.args.before.now id) []) c.args.results) c.in_ok-id.ensures in
    let added = c.in_ok-append.ensures.ok ∙ ap (λ es. es ++ c.in_ok-stale.stale) values ∙ ap (λ es. value_entries c.args.t c.args.results ++ es) stale in
    on_err_anyway c.from_residual-in_err-added.result
    (subst (λ entries. AddsPrefix c.args.store.now c.add_all.new.self (with_all c.args.store.now entries)) added c.in_err-added.ensures.err)

pub returns-clause-err : goal.returns-clause-err
returns-clause-err c =
    let values = c.in_ok-entries.ensures ∙ ap (value_entries c.args.t) (c.as_slice.ensures ∙ c.in_ok-elements.ensures) in
    let stale = c.in_ok-stale.ensures ∙ ap (λ id. stale_entries c.args.t (unwrap_or (last_of c.args.before.now id) []) c.args.results) c.in_ok-id.ensures in
    let added = c.in_ok-append.ensures.ok ∙ ap (λ es. es ++ c.in_ok-stale.stale) values ∙ ap (λ es. value_entries c.args.t c.args.results ++ es) stale in
    on_err_anyway c.append-2.result
    (subst (λ entries. AddsPrefix c.args.store.now c.add_all.new.self (with_all c.args.store.now entries)) added
    (all_stored c.args.store.now c.add_all.new.self c.append.new.self c.in_ok-added.ensures.ok))

pub returns-clause-added : goal.returns-clause-added
returns-clause-added c = λ base behind. on_ok_weaker c.append-2.result
    (λ grown. behind_more base c.args.store.now c.add_all.new.self c.args.progress.now.added c.in_ok-added.added c.append-2.new.self c.append.new.self behind c.in_ok-added.ensures.ok c.in_ok-added.ensures.added grown)
    c.append-2.ensures.ok
