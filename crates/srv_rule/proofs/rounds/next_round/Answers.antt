-- Each way out leaves a first part of the entries in the store; those that are answered stand behind what was there.
use Rattle.std.proofs.Common.{◌∙◌, ◌++◌, sym, ap, append-nil}
use Rattle.srv_rule.specs.Rounds.{ran_of}
use Rattle.srv_rule.proofs.RunLemmas.{cut_in_rules, cut_after_rules, cut_at_end, all_of_round, behind_more, on_err_anyway}
use Rattle.srv_rule.proofs.rounds.next_round.Goals as goal

pub returns-in_err-run_files-clause-err : goal.returns-in_err-run_files-clause-err
returns-in_err-run_files-clause-err c = on_err_anyway c.from_residual.result
    (cut_in_rules c.args.files.now c.args.t c.args.states.now c.new.result c.args.store.now c.new-2.result c.new.ensures c.new-2.ensures _
    c.in_err-run_files.ensures.err)

pub returns-in_err-gone_entries-clause-err : goal.returns-in_err-gone_entries-clause-err
returns-in_err-gone_entries-clause-err c = on_err_anyway c.from_residual-in_err-gone_entries.result
    (cut_after_rules c.args.files.now c.args.t c.args.states.now c.new.result c.args.store.now c.new-2.result c.new.ensures c.new-2.ensures
    (ran_of c.run_files.new.store c.run_files.new.progress.states c.run_files.new.progress.failed) c.in_ok-run_files.ensures.ok)

pub returns-in_err-gone-clause-err : goal.returns-in_err-gone-clause-err
returns-in_err-gone-clause-err c = on_err_anyway c.from_residual-in_err-gone.result
    (cut_at_end c.args.files.now c.args.t c.args.states.now c.new.result c.args.store.now c.new-2.result c.new.ensures c.new-2.ensures
    (ran_of c.run_files.new.store c.run_files.new.progress.states c.run_files.new.progress.failed) _ _ c.in_ok-run_files.ensures.ok
    c.in_ok-gone_entries.ensures c.in_err-gone.ensures.err)

pub returns-in_err-append-clause-err : goal.returns-in_err-append-clause-err
returns-in_err-append-clause-err c = on_err_anyway c.from_residual-in_err-append.result
    (all_of_round c.args.files.now c.args.t c.args.states.now c.new.result c.args.store.now c.new-2.result c.new.ensures c.new-2.ensures
    (ran_of c.run_files.new.store c.run_files.new.progress.states c.run_files.new.progress.failed) c.add_all.new.self _ c.in_ok-run_files.ensures.ok
    c.in_ok-gone_entries.ensures c.in_ok-gone.ensures.ok)

pub returns-clause-added : goal.returns-clause-added
returns-clause-added c =
    behind_more c.args.store.now c.run_files.new.store c.add_all.new.self c.run_files.new.progress.added c.in_ok-gone.gone c.append.new.self c.in_ok-gone_entries.field-0
    (c.in_ok-run_files.ensures.added c.args.store.now (sym (append-nil c.args.store.now) ∙ ap (λ l. c.args.store.now ++ l) (sym c.new-3.ensures)))
    c.in_ok-gone.ensures.ok c.in_ok-gone.ensures.added c.in_ok-append.ensures.ok
