-- The run of all events: what each one says, and what stands after it.
use Rattle.std.specs.Prelude.{ℕ, List, [], ◌∷◌, ◌++◌, Bool, true, false, Option, Some, None, codes, if◌then◌else◌}
use Rattle.op_base.specs.declared.kind.Kind.{Kind}
use Rattle.op_base.specs.declared.kind.Kind.TheVariants.{PrometheusRule, Probe as ProbeKind}
use Rattle.op_base.specs.declared.moment.Moment.{Moment}
use Rattle.op_base.specs.Keys.{key_text}
use Rattle.cfg_types.specs.declared.config.Config.{Config}
use Rattle.op_input.specs.declared.line.InputLine.{InputLine}
use Rattle.op_input.specs.declared.line.InputLine.TheVariants.{Page, Tick, NotYet as NotYetInput, Bad}
use Rattle.op_manifest.specs.Shapes.{rule_text}
use Rattle.op_report.specs.declared.view.Report.{Report}
use Rattle.op_report.specs.declared.view.View.{View}
use Rattle.op_report.specs.declared.view.View.TheVariants as view
use Rattle.op_thin.specs.declared.item.Item.{Item}
use Rattle.op_thin.specs.declared.item.Item.TheVariants.{Broken, NotYet, Rule, Probe}
use Rattle.op_thin.specs.declared.rule.ThinRule.{ThinRule}
use Rattle.op_thin.specs.declared.probe.ThinProbe.{ThinProbe}
use Rattle.op_thin.specs.Compiled.{config_of}
use Rattle.op_thin.specs.Judged.{EXPR_PATH, skip_rule}
use Rattle.op_thin.specs.Objects.{Present, nothing, is_taken, with_item}
use Rattle.srv_run.specs.declared.event.Event.TheVariants as server
use Rattle.srv_run.specs.Served.{Served, new_served, late, with_known, served_after, reports_of}
use Rattle.tenant_world.specs.Events.{ReadEvent, manifest, given, long}

-- the objects that are present, and the server
pub record World : Type 0 where
  pub objects : Present
  pub served : Served

-- nothing has happened
abbrev pub beginning : World
beginning = record { objects = nothing; served = new_served }

-- to everyone
abbrev pub to_all : View → Report
to_all seen = record { to = None; view = seen }

-- an object was taken; the rule of admission that skips it, if one does
abbrev pub answered : List ℕ → Option (List ℕ) → View
answered key None = view.Own false key (codes "Admitted") None None []
answered key (Some broken) = view.Own false key (codes "Skipped") (Some broken) (Some EXPR_PATH) []

-- an object's key as it is reported
abbrev pub key_of : Kind → List ℕ → List ℕ → List ℕ
key_of kind namespace name = key_text (record { kind = kind; namespace = namespace; name = name })

-- what is said of a rule and of a probe
abbrev pub rule_view : ThinRule → View
rule_view rule = answered (key_of PrometheusRule rule.namespace rule.name) (skip_rule rule.judged)

-- a probe that is taken is reported so
abbrev pub probe_view : ThinProbe → View
probe_view probe = answered (key_of ProbeKind probe.namespace probe.name) None

-- to its namespace
abbrev pub to_owner : List ℕ → View → Report
to_owner namespace seen = record { to = Some namespace; view = seen }

-- to everyone: the form isn't built yet
abbrev pub not_yet : List ℕ → Report
not_yet file = to_all (view.NotYetFile file 0)

-- what is said of an item of a file, and whether its object is taken
abbrev pub item_report : List ℕ → Item → Bool → Report
item_report file Broken taken = to_all (view.BadFile (codes "S1") file 0 [])
item_report file NotYet taken = not_yet file
item_report file (Rule rule) taken =
    if taken then to_owner rule.namespace (rule_view rule) else not_yet file
item_report file (Probe probe) taken =
    if taken then to_owner probe.namespace (probe_view probe) else not_yet file

-- the namespace of an item's object is known
abbrev pub known_after : Served → Item → Served
known_after served Broken = served
known_after served NotYet = served
known_after served (Rule rule) = with_known served rule.namespace
known_after served (Probe probe) = with_known served probe.namespace

-- an object that is taken is present, and its namespace known
abbrev pub after_item : World → Item → Bool → World
after_item world item true = record { objects = with_item world.objects item; served = known_after world.served item }
after_item world item false = world

-- a tick that isn't above the last leaves all as it was
abbrev pub tick_served : Config → Served → Moment → Option Moment → Served
tick_served config served t (Some last) = served
tick_served config served t None = served_after config served (server.Tick t)

-- it says so, with the last tick
abbrev pub tick_said : Config → Served → ℕ → Moment → Option Moment → List Report
tick_said config served number t (Some last) = to_all (view.LateTick last number) ∷ []
tick_said config served number t None = reports_of config served (server.Tick t)

-- what the server keeps after a line
abbrev pub line_served : Config → Served → InputLine → Served
line_served config served (Page url samples) = served_after config served (server.Page url samples)
line_served config served (Tick t) = tick_served config served t (late served.last t)
line_served config served NotYetInput = served
line_served config served (Bad shape) = served

-- what a line says
abbrev pub line_said : Config → Served → ℕ → InputLine → List Report
line_said config served number (Page url samples) = reports_of config served (server.Page url samples)
line_said config served number (Tick t) = tick_said config served number t (late served.last t)
line_said config served number NotYetInput = to_all (view.NotYetLine number) ∷ []
line_said config served number (Bad shape) = to_all (view.Bad (rule_text shape.rule) number shape.path) ∷ []

-- what stands after an event
abbrev pub next : World → ReadEvent → World
next world (manifest file item) = after_item world item (is_taken world.objects item)
next world (given number line) = record world { served = line_served (config_of world.objects) world.served line }
next world (long number) = world

-- what an event says
abbrev pub said : World → ReadEvent → List Report
said world (manifest file item) = item_report file item (is_taken world.objects item) ∷ []
said world (given number line) = line_said (config_of world.objects) world.served number line
said world (long number) = to_all (view.Long number) ∷ []

-- the reports of events, in their order
abbrev pub run : World → List ReadEvent → List Report
run world [] = []
run world (event ∷ events) = said world event ++ run (next world event) events

-- what the events leave
abbrev pub left_by : World → List ReadEvent → World
left_by world [] = world
left_by world (event ∷ events) = left_by (next world event) events
