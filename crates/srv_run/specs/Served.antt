-- The server: what it keeps, and what each event leaves and says. A tick runs the configuration that
-- was loaded last, with no ambient labels and nothing forced.
use Rattle.std.specs.Prelude.{◌≡◌, ℕ, true, List, [], ◌∷◌, Option, Some, None, int_le, if◌then◌else◌}
use Rattle.std.specs.List.{AllByRecursion}
use Rattle.op_base.specs.declared.moment.Moment.{Moment}
use Rattle.op_base.specs.Maps.{Map, keys_of, with_entry}
use Rattle.op_base.specs.Names.{is_namespace}
use Rattle.op_base.specs.Moments.{IsTick}
use Rattle.cfg_types.specs.declared.config.Config.{Config}
use Rattle.cfg_types.specs.Jobs.{jobs_of}
use Rattle.op_report.specs.declared.view.Report.{Report}
use Rattle.op_report.specs.declared.view.View.TheVariants.{Page as PageView}
use Rattle.srv_scrape.specs.declared.pages.Sample.{Sample}
use Rattle.srv_scrape.specs.Pages.{Pages}
use Rattle.srv_scrape.specs.Ticks.{scraped_entries}
use Rattle.srv_store.specs.Stores.{AddsPrefix}
use Rattle.srv_run.specs.declared.event.Event.{Event}
use Rattle.srv_run.specs.declared.event.Event.TheVariants.{Known, Page, Tick}
use Rattle.srv_run.specs.Memories.{Memory, Ticked, nothing_left, ticked}
use Rattle.srv_run.specs.Shares.{tick_reports}

-- the pages, the known namespaces in order, what ticks left, and the last tick
pub record Served : Type 0 where
  pub pages : Pages
  pub known : Map (Unit {0})
  pub memory : Memory
  pub last : Option Moment

-- a server that was told nothing
abbrev pub new_served : Served
new_served = record { pages = []; known = []; memory = nothing_left; last = None }

-- the last tick, where the moment isn't above it
abbrev pub late : Option Moment → Moment → Option Moment
late None t = None
late (Some last) t = if int_le t.0 last.0 then Some last else None

-- a namespace is known
abbrev pub with_known : Served → List ℕ → Served
with_known served namespace = record served { known = with_entry served.known namespace tt }

-- a page of a URL is replaced
abbrev pub with_page : Served → List ℕ → Option (List Sample) → Served
with_page served url samples = record served { pages = with_entry served.pages url samples }

-- what a tick of a configuration gives
abbrev pub tick_of : Config → Served → Moment → Ticked
tick_of config served t =
    ticked (scraped_entries served.pages t (jobs_of config)) config.rules [] [] served.memory t

-- the server after a tick
abbrev pub after_tick : Served → Ticked → Moment → Served
after_tick served ticked t = record served { memory = ticked.memory; last = Some t }

-- the server after an event that isn't a late tick
abbrev pub served_after : Config → Served → Event → Served
served_after config served (Known namespace) = with_known served namespace
served_after config served (Page url samples) = with_page served url samples
served_after config served (Tick t) = after_tick served (tick_of config served t) t

-- to everyone: the page was taken
abbrev pub page_report : List ℕ → Report
page_report url = record { to = None; view = PageView url }

-- what such an event says
abbrev pub reports_of : Config → Served → Event → List Report
reports_of config served (Known namespace) = []
reports_of config served (Page url samples) = page_report url ∷ []
reports_of config served (Tick t) = tick_reports (keys_of served.known) (tick_of config served t) t

-- a server: the configuration that was loaded last, and what it keeps
pub record Serving : Type 0 where
  pub config : Config
  pub served : Served

-- no jobs and no rules
abbrev pub no_config : Config
no_config = record { prometheus = None; rules = [] }

-- a new server
abbrev pub new_serving : Serving
new_serving = record { config = no_config; served = new_served }

-- what an event has to be: a namespace's name is well formed, a tick's moment from 0 to 2^53
abbrev pub IsFit : Event → Type 0
IsFit (Known namespace) = is_namespace namespace ≡ true
IsFit (Page url samples) = Unit {0}
IsFit (Tick t) = IsTick t

-- the last tick, where an event is a tick that isn't above it
abbrev pub late_event : Served → Event → Option Moment
late_event served (Known namespace) = None
late_event served (Page url samples) = None
late_event served (Tick t) = late served.last t

-- each known namespace's name is well formed
abbrev pub AreKnown : Map (Unit {0}) → Type 0
AreKnown known = AllByRecursion (λ namespace. is_namespace namespace ≡ true) (keys_of known)

-- after a refusal: the store has a first part of the entries that the event gives behind those of
-- before, and all else is as it was
pub record IsCutOff (old new : Serving) (whole : Served) : Type 0 where
  pub config : new.config ≡ old.config
  pub pages : new.served.pages ≡ old.served.pages
  pub known : new.served.known ≡ old.served.known
  pub scraped : new.served.memory.scraped ≡ old.served.memory.scraped
  pub states : new.served.memory.states ≡ old.served.memory.states
  pub last : new.served.last ≡ old.served.last
  pub stored : AddsPrefix old.served.memory.store new.served.memory.store whole.memory.store
