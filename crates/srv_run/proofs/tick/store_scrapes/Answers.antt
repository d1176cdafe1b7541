use Rattle.std.proofs.Common.{◌∙◌, ap, subst}
use Rattle.srv_store.specs.Stores.{AddsPrefix, with_all}
use Rattle.srv_scrape.specs.Ticks.{tick_entries}
use Rattle.srv_rule.proofs.RunLemmas.{on_err_anyway}
use Rattle.srv_run.proofs.tick.store_scrapes.Goals as goal

pub returns-in_err-added-clause-err : goal.returns-in_err-added-clause-err
returns-in_err-added-clause-err c = on_err_anyway c.from_residual-in_err-added.result
    (subst (λ entries. AddsPrefix c.args.store.now c.add_all.new.self (with_all c.args.store.now entries))
    (c.in_ok-entries.ensures.entries ∙ ap (tick_entries c.args.t c.args.before.now) c.in_ok-scraped.ensures) c.in_err-added.ensures.err)
