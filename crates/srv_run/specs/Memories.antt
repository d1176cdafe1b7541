-- What a tick gives: scrapes first, then the rules, over what the ticks before left.
use Rattle.std.specs.Prelude.{List, [], drop, length}
use Rattle.op_base.specs.declared.moment.Moment.{Moment}
use Rattle.op_base.specs.Labels.{Texts}
use Rattle.cfg_types.specs.declared.config.RuleFile.{RuleFile}
use Rattle.srv_store.specs.declared.entry.Entry.{Entry}
use Rattle.srv_store.specs.Stores.{Store, with_all}
use Rattle.srv_scrape.specs.Ticks.{label_sets, tick_entries}
use Rattle.srv_rule.specs.declared.view.FailedRule.{FailedRule}
use Rattle.srv_rule.specs.Rounds.{States, Ran, round_of}

-- what ticks leave: the store, the label sets of the last scrapes, and the states of rules
pub record Memory : Type 0 where
  pub store : Store
  pub scraped : List Texts
  pub states : States

-- no tick was run yet
abbrev pub nothing_left : Memory
nothing_left = record { store = []; scraped = []; states = [] }

-- what a tick leaves, which rules failed, and which entries were stored
pub record Ticked : Type 0 where
  pub memory : Memory
  pub failed : List FailedRule
  pub added : List Entry

-- the store with the entries of a tick's scrapes
abbrev pub with_scrapes : List Entry → Memory → Moment → Store
with_scrapes entries memory t = with_all memory.store (tick_entries t memory.scraped entries)

-- what a tick leaves: the store after its round, the label sets of its scrapes, the states of the rules; and
-- what it added
abbrev pub ticked_from : List Entry → Memory → Ran → Ticked
ticked_from entries memory ran = record {
  memory = record { store = ran.store; scraped = label_sets entries; states = ran.states };
  failed = ran.failed;
  added = drop (length memory.store) ran.store;
}

-- a tick of entries that were scraped and of rule files, with ambient and forced labels
abbrev pub ticked : List Entry → List RuleFile → Texts → Texts → Memory → Moment → Ticked
ticked entries files ambient force memory t =
    ticked_from entries memory (round_of files ambient force t memory.states (with_scrapes entries memory t))
