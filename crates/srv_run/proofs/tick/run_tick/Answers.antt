use Rattle.std.proofs.Common.{◌∙◌, ◌++◌, ap, sym, append_assoc}
use Rattle.srv_rule.specs.Rounds.{Ran}
use Rattle.srv_rule.proofs.RunLemmas.{on_err_anyway}
use Rattle.srv_run.specs.Ticking.{left}
use Rattle.srv_run.proofs.PrefixLemmas.{cut_in_scrapes, cut_in_round, all_in_round}
use Rattle.srv_run.proofs.tick.run_tick.Goals as goal

pub returns-in_err-given-clause-err : goal.returns-in_err-given-clause-err
returns-in_err-given-clause-err c = on_err_anyway c.from_residual.result
    (cut_in_scrapes c.args.config.now c.args.pages.now (left c.args.store.now c.args.scraped.now c.args.states.now) c.args.t
    c.store_scrapes.new.store c.in_err-given.ensures.err)

pub returns-in_err-next-clause-err : goal.returns-in_err-next-clause-err
returns-in_err-next-clause-err c = on_err_anyway c.from_residual-in_err-next.result
    (cut_in_round c.args.config.now c.args.pages.now (left c.args.store.now c.args.scraped.now c.args.states.now) c.args.t
    c.store_scrapes.new.store c.next_round.new.store c.in_ok-given.ensures.ok c.in_err-next.ensures.err)

pub returns-in_err-append-clause-err : goal.returns-in_err-append-clause-err
returns-in_err-append-clause-err c = on_err_anyway c.from_residual-in_err-append.result
    (all_in_round c.args.config.now c.args.pages.now (left c.args.store.now c.args.scraped.now c.args.states.now) c.args.t
    c.store_scrapes.new.store c.next_round.new.store c.in_ok-given.ensures.ok (ap (λ (r : Ran). r.store) c.in_ok-next.ensures.ok))

pub returns-clause-added : goal.returns-clause-added
returns-clause-added c =
    c.in_ok-next.ensures.added ∙ ap (λ s. s ++ c.in_ok-next.more) c.in_ok-given.ensures.added
    ∙ append_assoc c.args.store.now c.in_ok-given.added c.in_ok-next.more ∙ ap (λ l. c.args.store.now ++ l) (sym c.in_ok-append.ensures.ok)
