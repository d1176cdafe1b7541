-- A tick of everyone is seen by a namespace as the tick of its own scrapes and rules.
use Rattle.std.proofs.Common.{◌≡◌, ℕ, List, [], ◌∷◌, ◌++◌, map, filter, length, drop, refl, sym, ap, ◌∙◌}
use Rattle.std.specs.List.{AllByRecursion}
use Rattle.op_base.specs.declared.moment.Moment.{Moment}
use Rattle.op_base.specs.Labels.{Texts}
use Rattle.cfg_types.specs.declared.config.RuleFile.{RuleFile}
use Rattle.srv_store.specs.declared.entry.Entry.{Entry}
use Rattle.srv_store.specs.Stores.{Store, with_all, fresh, owns, of_namespace}
use Rattle.srv_scrape.specs.Ticks.{tick_entries}
use Rattle.srv_rule.specs.Rounds.{Ran, round_of}
use Rattle.srv_run.specs.Memories.{Memory, Ticked, with_scrapes, ticked}
use Rattle.srv_run.specs.Shares.{failed_of}
use Rattle.tenant_world.specs.Tenants.{home_label}
use Rattle.tenant_world.proofs.EnforcedFiles.{enforced_file, IsFineFile, is_of}
use Rattle.tenant_world.proofs.RoundLaws.{states_of, ran_of, OwnStates}
use Rattle.tenant_world.proofs.RulesLaws.{Adds, adds-more, round-of, round-own, round-adds}
use Rattle.tenant_world.proofs.StoreLaws.{of-append, with_all-of}
use Rattle.tenant_world.proofs.TickLaws.{label_sets-of, tick_entries-of}

-- what a namespace sees of what ticks left
abbrev pub memory_of : List ℕ → Memory → Memory
memory_of n memory =
    record { store = of_namespace n memory.store; scraped = filter (owns n) memory.scraped; states = states_of n memory.states }

-- what it sees of a tick
abbrev pub ticked_of : List ℕ → Ticked → Ticked
ticked_of n given = record { memory = memory_of n given.memory; failed = failed_of n given.failed; added = of_namespace n given.added }

drop-append : (xs ys : Store) → drop (length xs) (xs ++ ys) ≡ ys
drop-append [] ys = refl
drop-append (x ∷ xs) ys = drop-append xs ys

scrapes-of : (n : List ℕ) (entries : List Entry) (memory : Memory) (t : Moment)
    → of_namespace n (with_scrapes entries memory t) ≡ with_scrapes (of_namespace n entries) (memory_of n memory) t
scrapes-of n entries memory t =
    with_all-of n memory.store (tick_entries t memory.scraped entries)
    ∙ ap (with_all (of_namespace n memory.store)) (tick_entries-of n t memory.scraped entries)

tick-adds : (entries : List Entry) (files : List RuleFile) (ambient force : Texts) (memory : Memory) (t : Moment) → Adds memory.store (ticked entries files ambient force memory t).memory.store
tick-adds entries files ambient force memory t =
    let scraped = with_scrapes entries memory t in
    adds-more memory.store scraped (round_of files ambient force t memory.states scraped).store
    (fresh memory.store (tick_entries t memory.scraped entries), refl) (round-adds files ambient force t memory.states scraped)

-- what is added is seen as what is added to what is seen
added-of : (n : List ℕ) (old new own : Store) → Adds old new → of_namespace n new ≡ own → of_namespace n (drop (length old) new) ≡ drop (length (of_namespace n old)) own
added-of n old new own (added, is) seen =
    ap (of_namespace n) (ap (drop (length old)) is ∙ drop-append old added)
    ∙ sym (drop-append (of_namespace n old) (of_namespace n added))
    ∙ ap (drop (length (of_namespace n old))) (sym (of-append n old added) ∙ sym (ap (of_namespace n) is) ∙ seen)

module _ (n : List ℕ) (entries : List Entry) (files : List RuleFile) (memory : Memory) (t : Moment) (fine : AllByRecursion IsFineFile files) (states : OwnStates memory.states) where
  ran-seen : ran_of n (round_of (map enforced_file files) [] [] t memory.states (with_scrapes entries memory t))
      ≡ round_of (filter (is_of n) files) (home_label n) (home_label n) t (states_of n memory.states) (with_scrapes (of_namespace n entries) (memory_of n memory) t)
  ran-seen =
      round-of n files t memory.states (with_scrapes entries memory t) fine states
      ∙ ap (round_of (filter (is_of n) files) (home_label n) (home_label n) t (states_of n memory.states)) (scrapes-of n entries memory t)

  pub ticked-of : ticked_of n (ticked entries (map enforced_file files) [] [] memory t)
      ≡ ticked (of_namespace n entries) (filter (is_of n) files) (home_label n) (home_label n) (memory_of n memory) t
  ticked-of =
      let server = ticked entries (map enforced_file files) [] [] memory t in
      let store_seen = ap (λ (ran : Ran). ran.store) ran-seen in
      λ i. record {
        memory = record {
          store = store_seen i;
          scraped = label_sets-of n entries i;
          states = ap (λ (ran : Ran). ran.states) ran-seen i;
        };
        failed = ap (λ (ran : Ran). ran.failed) ran-seen i;
        added = added-of n memory.store server.memory.store _ (tick-adds entries (map enforced_file files) [] [] memory t) store_seen i;
      }

  pub ticked-own : OwnStates (ticked entries (map enforced_file files) [] [] memory t).memory.states
  ticked-own = round-own files t memory.states (with_scrapes entries memory t) fine states
