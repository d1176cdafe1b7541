-- A tenant's own world: its own objects as they are written, and the pages. No expression is rewritten, no
-- matcher is added and no configuration is compiled: the label `namespace` is ambient, and forced over all
-- samples and results.
use Rattle.std.specs.Prelude.{ℕ, ◌+◌, List, [], ◌∷◌, ◌++◌, Bool, true, false, Option, Some, None, length, is_some, map, if◌then◌else◌}
use Rattle.std.specs.List.{flat_map, filter_map}
use Rattle.op_base.specs.declared.moment.Moment.{Moment}
use Rattle.op_base.specs.Maps.{Map, value_at, values_of, with_entry}
use Rattle.op_base.specs.Labels.{Texts}
use Rattle.op_base.specs.declared.label_names.TheConstants.{NAMESPACE_LABEL}
use Rattle.cfg_types.specs.declared.config.RuleFile.{RuleFile}
use Rattle.cfg_types.specs.declared.config.Rule.{Rule as WrittenRule}
use Rattle.op_report.specs.declared.view.View.{View}
use Rattle.op_thin.specs.declared.rule.ThinRule.{ThinRule}
use Rattle.op_thin.specs.declared.probe.ThinProbe.{ThinProbe}
use Rattle.op_thin.specs.declared.recording.Recording.{Recording}
use Rattle.op_thin.specs.Compiled.{recording_of}
use Rattle.op_thin.specs.FileOrder.{in_order}
use Rattle.op_thin.specs.Objects.{fits}
use Rattle.srv_store.specs.declared.entry.Entry.{Entry}
use Rattle.srv_scrape.specs.declared.pages.Sample.{Sample}
use Rattle.srv_scrape.specs.Pages.{Pages, page_at}
use Rattle.srv_scrape.specs.Scraped.{Manner, scraped}
use Rattle.srv_run.specs.Memories.{Memory, Ticked, nothing_left, ticked}
use Rattle.srv_run.specs.Served.{late}
use Rattle.srv_run.specs.Shares.{tick_view}
use Rattle.tenant_world.specs.Owners.{Own, rule, probe, page, tick}
use Rattle.tenant_world.specs.ProbeTargets.{probe_target, probe_url}
use Rattle.tenant_world.specs.Runs.{rule_view, probe_view}

-- its rules and its probes by their names, the pages, what ticks left, the last tick, and whether it is known
pub record Tenant : Type 0 where
  pub rules : Map ThinRule
  pub probes : Map ThinProbe
  pub pages : Pages
  pub memory : Memory
  pub last : Option Moment
  pub known : Bool

-- nothing has happened
abbrev pub nothing_yet : Tenant
nothing_yet = record { rules = []; probes = []; pages = []; memory = nothing_left; last = None; known = false }

-- the label `namespace` with the tenant's own name
abbrev pub home_label : List ℕ → Texts
home_label n = (NAMESPACE_LABEL.now, n) ∷ []

-- a rule as it is written
abbrev pub written_rule : Recording → WrittenRule
written_rule r = record { name = r.record_name; expr = r.tree; labels = [] }

-- the rule file of a rule as it is written
abbrev pub written_file : Recording → RuleFile
written_file r = record {
  namespace = r.namespace;
  name = r.name;
  groups = record { name = r.group; rules = written_rule r ∷ [] } ∷ [];
}

-- the tenant's rules that aren't skipped, in the order of their objects' texts
abbrev pub written_files : Map ThinRule → List RuleFile
written_files rules = in_order (map written_file (filter_map recording_of (values_of rules)))

-- samples are renamed where they clash, no step is run, there is no limit, and the own label is put over all
abbrev pub direct_manner : List ℕ → Manner
direct_manner n = record { honor = false; steps = []; limit = None; force = home_label n }

-- the entries of a probe's scrape
abbrev pub probe_entries : List ℕ → Pages → Moment → ThinProbe → List Entry
probe_entries n pages t p = scraped (direct_manner n) (probe_target p) (page_at pages (probe_url p)) t

-- the entries of all its scrapes, by the names of its probes
abbrev pub own_entries : List ℕ → Tenant → Moment → List Entry
own_entries n tenant t = flat_map (probe_entries n tenant.pages t) (values_of tenant.probes)

-- what a tick gives it
abbrev pub own_ticked : List ℕ → Tenant → Moment → Ticked
own_ticked n tenant t =
    ticked (own_entries n tenant t) (written_files tenant.rules) (home_label n) (home_label n) tenant.memory t

-- how many objects it has
abbrev pub own_count : Tenant → ℕ
own_count tenant = length tenant.rules + length tenant.probes

-- the rule takes the place of one, or the tenant isn't full
abbrev pub rule_has_room : Tenant → ThinRule → Bool
rule_has_room tenant r = fits (is_some (value_at tenant.rules r.name)) (own_count tenant)

-- the probe takes the place of one, or the tenant isn't full
abbrev pub probe_has_room : Tenant → ThinProbe → Bool
probe_has_room tenant p = fits (is_some (value_at tenant.probes p.name)) (own_count tenant)

-- a rule that has room is there, and the tenant is known
abbrev pub with_rule : Tenant → ThinRule → Bool → Tenant
with_rule tenant r true = record tenant { rules = with_entry tenant.rules r.name r; known = true }
with_rule tenant r false = tenant

-- the probe is put in its place where there is room
abbrev pub with_probe : Tenant → ThinProbe → Bool → Tenant
with_probe tenant p true = record tenant { probes = with_entry tenant.probes p.name p; known = true }
with_probe tenant p false = tenant

-- a page is replaced
abbrev pub with_page : Tenant → List ℕ → Option (List Sample) → Tenant
with_page tenant url samples = record tenant { pages = with_entry tenant.pages url samples }

-- a tick that isn't above the last leaves all as it was
abbrev pub with_tick : List ℕ → Tenant → Moment → Option Moment → Tenant
with_tick n tenant t (Some last) = tenant
with_tick n tenant t None = record tenant { memory = (own_ticked n tenant t).memory; last = Some t }

-- what stands after an event of its own or everyone's
abbrev pub own_next : List ℕ → Tenant → Own → Tenant
own_next n tenant (rule r) = with_rule tenant r (rule_has_room tenant r)
own_next n tenant (probe p) = with_probe tenant p (probe_has_room tenant p)
own_next n tenant (page url samples) = with_page tenant url samples
own_next n tenant (tick t) = with_tick n tenant t (late tenant.last t)

-- a tick's line, where the tenant is known
abbrev pub own_tick_view : Ticked → Moment → View
own_tick_view given t = tick_view given.failed given.added t

-- what a tick says to a known tenant, unless it is late
abbrev pub own_tick_said : List ℕ → Tenant → Moment → Option Moment → List View
own_tick_said n tenant t (Some last) = []
own_tick_said n tenant t None = if tenant.known then own_tick_view (own_ticked n tenant t) t ∷ [] else []

-- what is said of such an event
abbrev pub own_said : List ℕ → Tenant → Own → List View
own_said n tenant (rule r) = if rule_has_room tenant r then rule_view r ∷ [] else []
own_said n tenant (probe p) = if probe_has_room tenant p then probe_view p ∷ [] else []
own_said n tenant (page url samples) = []
own_said n tenant (tick t) = own_tick_said n tenant t (late tenant.last t)

-- all that is said in the tenant's own world
abbrev pub own_run : List ℕ → Tenant → List Own → List View
own_run n tenant [] = []
own_run n tenant (event ∷ events) = own_said n tenant event ++ own_run n (own_next n tenant event) events

-- the lines of a tenant: what its own events, and everyone's, give in its own world
abbrev pub tenant_views : List ℕ → List Own → List View
tenant_views n events = own_run n nothing_yet events
