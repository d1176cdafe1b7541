-- Each report of a run is for everyone or for a namespace that is well formed.
use Rattle.std.proofs.Common.{◌≡◌, ℕ, Bool, true, false, List, [], ◌∷◌, ◌++◌, Option, None, Some, IfSome}
use Rattle.op_base.specs.declared.moment.Moment.{Moment}
use Rattle.op_base.specs.Maps.{keys_of}
use Rattle.op_base.specs.Names.{is_namespace}
use Rattle.cfg_types.specs.declared.config.Config.{Config}
use Rattle.op_input.specs.declared.line.InputLine.{InputLine}
use Rattle.op_input.specs.declared.line.InputLine.TheVariants.{Page, Tick, NotYet as NotYetInput, Bad}
use Rattle.op_report.specs.declared.view.Report.{Report}
use Rattle.op_report.specs.ReadBack.{AreNamed}
use Rattle.op_thin.specs.declared.item.Item.{Item}
use Rattle.op_thin.specs.declared.item.Item.TheVariants.{Broken, NotYet, Rule, Probe}
use Rattle.op_thin.specs.Compiled.{config_of}
use Rattle.op_thin.specs.Items.{IsNamed}
use Rattle.op_thin.specs.Objects.{is_taken}
use Rattle.srv_run.specs.Served.{Served, AreKnown, late, tick_of}
use Rattle.srv_run.proofs.KnownLemmas.{known-more, lines-named}
use Rattle.tenant_world.specs.Events.{ReadEvent, manifest, given, long, HasNames, HaveNames}
use Rattle.tenant_world.specs.Runs.{World, run, said, next, item_report, after_item, known_after, tick_served, tick_said, line_served, line_said}

pub named-append : (xs ys : List Report) → AreNamed xs → AreNamed ys → AreNamed (xs ++ ys)
named-append [] ys p q = q
named-append (x ∷ xs) ys p q = (p.0, named-append xs ys p.1 q)

-- the namespace of an item's object
item_named : (file : List ℕ) (item : Item) (taken : Bool) → IsNamed item → IfSome (item_report file item taken).to (λ namespace. is_namespace namespace ≡ true)
item_named file Broken taken names = tt
item_named file NotYet taken names = tt
item_named file (Rule rule) true names = names
item_named file (Rule rule) false names = tt
item_named file (Probe probe) true names = names.0
item_named file (Probe probe) false names = tt

tick_named : (config : Config) (served : Served) (number : ℕ) (t : Moment) (last : Option Moment) → AreKnown served.known → AreNamed (tick_said config served number t last)
tick_named config served number t (Some last) known = (tt, tt)
tick_named config served number t None known = lines-named (keys_of served.known) (keys_of served.known) (tick_of config served t) t known

line_named : (config : Config) (served : Served) (number : ℕ) (line : InputLine) → AreKnown served.known → AreNamed (line_said config served number line)
line_named config served number (Page url samples) known = (tt, tt)
line_named config served number (Tick t) known = tick_named config served number t (late served.last t) known
line_named config served number NotYetInput known = (tt, tt)
line_named config served number (Bad shape) known = (tt, tt)

said_named : (world : World) (event : ReadEvent) → AreKnown world.served.known → HasNames event → AreNamed (said world event)
said_named world (manifest file item) known names = (item_named file item (is_taken world.objects item) names, tt)
said_named world (given number line) known names = line_named (config_of world.objects) world.served number line known
said_named world (long number) known names = (tt, tt)

-- the namespaces that are known stay well formed
item_known : (served : Served) (item : Item) → AreKnown served.known → IsNamed item → AreKnown (known_after served item).known
item_known served Broken known names = known
item_known served NotYet known names = known
item_known served (Rule rule) known names = known-more served.known rule.namespace tt names known
item_known served (Probe probe) known names = known-more served.known probe.namespace tt names.0 known

taken_known : (world : World) (item : Item) (taken : Bool) → AreKnown world.served.known → IsNamed item → AreKnown (after_item world item taken).served.known
taken_known world item true known names = item_known world.served item known names
taken_known world item false known names = known

tick_known : (config : Config) (served : Served) (t : Moment) (last : Option Moment) → AreKnown served.known → AreKnown (tick_served config served t last).known
tick_known config served t (Some last) known = known
tick_known config served t None known = known

line_known : (config : Config) (served : Served) (line : InputLine) → AreKnown served.known → AreKnown (line_served config served line).known
line_known config served (Page url samples) known = known
line_known config served (Tick t) known = tick_known config served t (late served.last t) known
line_known config served NotYetInput known = known
line_known config served (Bad shape) known = known

next_known : (world : World) (event : ReadEvent) → AreKnown world.served.known → HasNames event → AreKnown (next world event).served.known
next_known world (manifest file item) known names = taken_known world item (is_taken world.objects item) known names
next_known world (given number line) known names = line_known (config_of world.objects) world.served line known
next_known world (long number) known names = known

-- each report of the events is named
pub run_named : (world : World) (events : List ReadEvent) → AreKnown world.served.known → HaveNames events → AreNamed (run world events)
run_named world [] known names = tt
run_named world (event ∷ events) known names =
    named-append (said world event) (run (next world event) events) (said_named world event known names.0)
    (run_named (next world event) events (next_known world event known names.0) names.1)
