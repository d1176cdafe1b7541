-- The known namespaces are well formed, and the lines are those of the tick.
use Rattle.std.proofs.Common.{◌≡◌, ◌∙◌, drop, length, ap, refl, subst, sym}
use Rattle.std.proofs.lemmas.List.{drop_at}
use Rattle.op_base.specs.Maps.{keys_of}
use Rattle.op_report.specs.ReadBack.{AreNamed}
use Rattle.srv_rule.proofs.RunLemmas.{on_err_anyway}
use Rattle.srv_run.specs.Memories.{Ticked}
use Rattle.srv_run.specs.Served.{Serving, IsCutOff, tick_of, after_tick}
use Rattle.srv_run.specs.Shares.{tick_reports}
use Rattle.srv_run.specs.Ticking.{left, told}
use Rattle.srv_run.proofs.KnownLemmas.{lines-named}
use Rattle.srv_run.proofs.PrefixLemmas.{all_of_tick}
use Rattle.srv_run.proofs.server.Server.run.Goals as goal

pub returns-clause-named : goal.returns-clause-named
returns-clause-named c = subst AreNamed (sym c.in_ok-reports.ensures)
    (lines-named (keys_of c.self.inside.known) (keys_of c.self.inside.known) (told c.in_ok-scraped.failed c.in_ok-scraped.added) c.args.t c.self.invariant.0)

pub returns-clause-reports : goal.returns-clause-reports
returns-clause-reports c =
    subst (λ (s : Serving). c.in_ok-reports.reports ≡ tick_reports (keys_of s.served.known) (tick_of s.config s.served c.args.t) c.args.t) c.self.view_is
    (c.in_ok-reports.ensures
    ∙ ap (λ added. tick_reports (keys_of c.self.inside.known) (told c.in_ok-scraped.failed added) c.args.t)
    (sym (ap (drop (length c.self.inside.store)) c.in_ok-scraped.ensures.added ∙ drop_at c.self.inside.store c.in_ok-scraped.added (length c.self.inside.store) refl))
    ∙ ap (λ (k : Ticked). tick_reports (keys_of c.self.inside.known) k c.args.t) c.in_ok-scraped.ensures.ok)

pub returns-in_err-reports-clause-cut_off : goal.returns-in_err-reports-clause-cut_off
returns-in_err-reports-clause-cut_off c = on_err_anyway c.from_residual-in_err-reports.result
    (subst (λ (s : Serving). IsCutOff s (record {
      config = c.self.inside.config;
      served = record {
        pages = c.self.inside.pages;
        known = c.self.inside.known;
        memory = left c.run_tick.new.store c.self.inside.scraped c.self.inside.states;
        last = c.self.inside.last;
      };
    }) (after_tick s.served (tick_of s.config s.served c.args.t) c.args.t)) c.self.view_is (record {
      config = refl;
      pages = refl;
      known = refl;
      scraped = refl;
      states = refl;
      last = refl;
      stored = all_of_tick c.self.inside.config c.self.inside.pages (left c.self.inside.store c.self.inside.scraped c.self.inside.states) c.args.t
          c.run_tick.new.store (ap (λ (k : Ticked). k.memory.store) c.in_ok-scraped.ensures.ok);
    }))

pub returns-in_err-scraped-clause-cut_off : goal.returns-in_err-scraped-clause-cut_off
returns-in_err-scraped-clause-cut_off c = on_err_anyway c.from_residual.result
    (subst (λ (s : Serving). IsCutOff s (record {
      config = c.self.inside.config;
      served = record {
        pages = c.self.inside.pages;
        known = c.self.inside.known;
        memory = left c.run_tick.new.store c.self.inside.scraped c.self.inside.states;
        last = c.self.inside.last;
      };
    }) (after_tick s.served (tick_of s.config s.served c.args.t) c.args.t)) c.self.view_is (record {
      config = refl;
      pages = refl;
      known = refl;
      scraped = refl;
      states = refl;
      last = refl;
      stored = c.in_err-scraped.ensures.err;
    }))
