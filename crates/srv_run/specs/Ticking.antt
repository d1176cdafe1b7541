-- A tick as the code holds it.
use Rattle.std.specs.Prelude.{ℕ, List, [], Bool, Some, drop, length, bytes_eq}
use Rattle.std.specs.List.{list_any}
use Rattle.op_base.specs.declared.moment.Moment.{Moment}
use Rattle.op_base.specs.Labels.{Texts}
use Rattle.op_base.specs.Maps.{Map, members_at, text_cmp}
use Rattle.cfg_types.specs.declared.config.Config.{Config}
use Rattle.cfg_types.specs.Jobs.{jobs_of}
use Rattle.srv_scrape.specs.Pages.{Pages}
use Rattle.srv_scrape.specs.Ticks.{scraped_entries}
use Rattle.srv_store.specs.declared.entry.Entry.{Entry}
use Rattle.srv_store.specs.Stores.{Store}
use Rattle.srv_rule.specs.declared.view.FailedRule.{FailedRule}
use Rattle.srv_rule.specs.Rounds.{States}
use Rattle.op_report.specs.declared.view.Report.{Report}
use Rattle.srv_run.specs.Memories.{Memory, Ticked, ticked, nothing_left}
use Rattle.srv_run.specs.Shares.{tick_view}

-- what ticks left, part by part
abbrev pub left : Store → List Texts → States → Memory
left store scraped states = record { store = store; scraped = scraped; states = states }

-- a tick that was run, over the store that it found
abbrev pub ticked_as : Store → Memory → List FailedRule → Ticked
ticked_as before memory failed = record {
  memory = memory;
  failed = failed;
  added = drop (length before) memory.store;
}

-- a tick of a configuration with no ambient labels and nothing forced
abbrev pub tick_over : Config → Pages → Memory → Moment → Ticked
tick_over config pages memory t =
    ticked (scraped_entries pages t (jobs_of config)) config.rules [] [] memory t

-- failed rules and added entries as those of a tick
abbrev pub told : List FailedRule → List Entry → Ticked
told failed added = record { memory = nothing_left; failed = failed; added = added }

-- the line of a name from what was shared out
abbrev pub shared_line : Map (List FailedRule) → Map (List Entry) → Moment → List ℕ → Report
shared_line rules entries t name = record {
  to = Some name;
  view = tick_view (members_at text_cmp rules name) (members_at text_cmp entries name) t;
}

-- the name is one of these
abbrev pub is_among : List (List ℕ) → List ℕ → Bool
is_among names name = list_any (λ namespace. bytes_eq namespace name) names
