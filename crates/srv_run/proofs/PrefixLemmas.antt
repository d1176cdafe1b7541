-- A tick that was cut off stored a first part of its entries.
use Rattle.std.proofs.Common.{◌≡◌, [], ap, sym, subst, ◌∙◌}
use Rattle.op_base.specs.declared.moment.Moment.{Moment}
use Rattle.cfg_types.specs.declared.config.Config.{Config}
use Rattle.cfg_types.specs.Jobs.{jobs_of}
use Rattle.srv_store.specs.Stores.{Store, Grows, AddsPrefix, with_all}
use Rattle.srv_store.proofs.GrowthLemmas.{grows-itself, grows-further, grows-with_all}
use Rattle.srv_scrape.specs.Pages.{Pages}
use Rattle.srv_scrape.specs.Ticks.{scraped_entries, tick_entries}
use Rattle.srv_rule.specs.Rounds.{stored, round_of}
use Rattle.srv_rule.proofs.RunLemmas.{round_grows}
use Rattle.srv_run.specs.Memories.{Memory}
use Rattle.srv_run.specs.Ticking.{tick_over}

module _ (config : Config) (pages : Pages) (memory : Memory) (t : Moment) where
  abbrev scraped_store : Store
  scraped_store = with_all memory.store (tick_entries t memory.scraped (scraped_entries pages t (jobs_of config)))

  abbrev all_store : Store
  all_store = (tick_over config pages memory t).memory.store

  -- the rules store behind the scrapes
  rules_grow : Grows scraped_store all_store
  rules_grow = round_grows config.rules t memory.states scraped_store

  -- nothing was stored
  pub none_of_tick : AddsPrefix memory.store memory.store all_store
  none_of_tick = (grows-itself memory.store, grows-further memory.store scraped_store all_store (grows-with_all memory.store _) rules_grow)

  -- it was cut off while the scrapes were stored
  pub cut_in_scrapes : (new : Store) → AddsPrefix memory.store new scraped_store → AddsPrefix memory.store new all_store
  cut_in_scrapes new cut = (cut.0, grows-further new scraped_store all_store cut.1 rules_grow)

  -- it was cut off in the round
  pub cut_in_round : (between new : Store) → between ≡ scraped_store → AddsPrefix between new (stored (round_of config.rules [] [] t memory.states between))
      → AddsPrefix memory.store new all_store
  cut_in_round between new is cut = cut_behind new (subst (λ s. AddsPrefix s new (stored (round_of config.rules [] [] t memory.states s))) is cut) where
    cut_behind : (new : Store) → AddsPrefix scraped_store new all_store → AddsPrefix memory.store new all_store
    cut_behind new cut = (grows-further memory.store scraped_store new (grows-with_all memory.store _) cut.0, cut.1)

  -- all of it was stored
  pub all_of_tick : (new : Store) → new ≡ all_store → AddsPrefix memory.store new all_store
  all_of_tick new is = subst (λ s. AddsPrefix memory.store s all_store) (sym is) (none_of_tick.1, grows-itself all_store)

  -- the round was over
  pub all_in_round : (between new : Store) → between ≡ scraped_store → new ≡ stored (round_of config.rules [] [] t memory.states between) → AddsPrefix memory.store new all_store
  all_in_round between new is whole = all_of_tick new (whole ∙ ap (λ s. stored (round_of config.rules [] [] t memory.states s)) is)
