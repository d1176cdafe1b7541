-- Whose an event is: its namespace's for a manifest with an object, everyone's for a page or a tick,
-- nobody's for all else.
use Rattle.std.specs.Prelude.{ℕ, List, Bool, true, false, Option, Some, None, bytes_eq, filter}
use Rattle.std.specs.List.{filter_map}
use Rattle.op_base.specs.declared.moment.Moment.{Moment}
use Rattle.op_input.specs.declared.line.InputLine.{InputLine}
use Rattle.op_input.specs.declared.line.InputLine.TheVariants.{Page, Tick, NotYet as NotYetInput, Bad}
use Rattle.op_thin.specs.declared.rule.ThinRule.{ThinRule}
use Rattle.op_thin.specs.declared.probe.ThinProbe.{ThinProbe}
use Rattle.op_thin.specs.declared.item.Item.{Item}
use Rattle.op_thin.specs.declared.item.Item.TheVariants.{Broken, NotYet, Rule, Probe}
use Rattle.srv_scrape.specs.declared.pages.Sample.{Sample}
use Rattle.tenant_world.specs.Events.{ReadEvent, manifest, given, long}

pub data Owner : Type 0 where
  of : List ℕ → Owner
  everyone : Owner
  nobody : Owner

-- the namespace of an object that is read; what isn't is nobody's
abbrev pub item_owner : Item → Owner
item_owner Broken = nobody
item_owner NotYet = nobody
item_owner (Rule r) = of r.namespace
item_owner (Probe p) = of p.namespace

-- pages and ticks are everyone's
abbrev pub line_owner : InputLine → Owner
line_owner (Page url samples) = everyone
line_owner (Tick t) = everyone
line_owner NotYetInput = nobody
line_owner (Bad shape) = nobody

-- whose an event is
abbrev pub owner : ReadEvent → Owner
owner (manifest file item) = item_owner item
owner (given number line) = line_owner line
owner (long number) = nobody

-- an event of the namespace or of everyone
abbrev pub is_own : List ℕ → Owner → Bool
is_own n (of namespace) = bytes_eq n namespace
is_own n everyone = true
is_own n nobody = false

-- an event without file names and numbers of lines
pub data Own : Type 0 where
  rule : ThinRule → Own
  probe : ThinProbe → Own
  page : List ℕ → Option (List Sample) → Own
  tick : Moment → Own

-- an object without its file
abbrev pub stripped_item : Item → Option Own
stripped_item Broken = None
stripped_item NotYet = None
stripped_item (Rule r) = Some (rule r)
stripped_item (Probe p) = Some (probe p)

-- a page or a tick without its number
abbrev pub stripped_line : InputLine → Option Own
stripped_line (Page url samples) = Some (page url samples)
stripped_line (Tick t) = Some (tick t)
stripped_line NotYetInput = None
stripped_line (Bad shape) = None

-- an event without its file or number, where it is anyone's
abbrev pub stripped : ReadEvent → Option Own
stripped (manifest file item) = stripped_item item
stripped (given number line) = stripped_line line
stripped (long number) = None

-- a tenant's own events and everyone's, in their order
abbrev pub own_events : List ℕ → List ReadEvent → List Own
own_events n events = filter_map stripped (filter (λ event. is_own n (owner event)) events)
