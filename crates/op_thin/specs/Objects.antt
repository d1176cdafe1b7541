-- The objects that are present: thin rules and thin probes by namespace and name.
use Rattle.std.specs.Prelude.{ℕ, ◌+◌, List, [], Bool, false, ◌||◌, length, is_some, nat_lt, unwrap_or, if◌then◌else◌}
use Rattle.std.specs.List.{AllByRecursion, flat_map}
use Rattle.op_base.specs.Maps.{Map, value_at, values_of, with_inner}
use Rattle.op_thin.specs.Judged.{IsTyped}
use Rattle.op_thin.specs.declared.rule.ThinRule.{ThinRule}
use Rattle.op_thin.specs.declared.probe.ThinProbe.{ThinProbe}
use Rattle.op_thin.specs.declared.item.Item.{Item}
use Rattle.op_thin.specs.declared.item.Item.TheVariants.{Broken, NotYet, Rule, Probe}
use Rattle.op_thin.specs.declared.objects.TheConstants.{MOST_OBJECTS}

-- the rules and the probes, each by namespace and then by name
pub record Present : Type 0 where
  pub rules : Map (Map ThinRule)
  pub probes : Map (Map ThinProbe)

-- no objects
abbrev pub nothing : Present
nothing = record { rules = []; probes = [] }

-- how many objects a namespace may have
abbrev pub most_objects : ℕ
most_objects = MOST_OBJECTS

-- the objects of one kind in a namespace, by their names
abbrev pub inner_at : {X : Type 0} → Map (Map X) → List ℕ → Map X
inner_at objects namespace = unwrap_or (value_at objects namespace) []

-- a key is there, or its namespace, with so many objects, isn't full
abbrev pub fits : Bool → ℕ → Bool
fits there count = there || nat_lt count most_objects

-- how many objects a namespace has
abbrev pub count_in : Present → List ℕ → ℕ
count_in objects namespace = length (inner_at objects.rules namespace) + length (inner_at objects.probes namespace)

-- there is room for the rule: it takes the place of one, or its namespace isn't full
abbrev pub rule_fits : Present → ThinRule → Bool
rule_fits objects rule =
    fits (is_some (value_at (inner_at objects.rules rule.namespace) rule.name)) (count_in objects rule.namespace)

-- there is room for the probe: it takes the place of one, or its namespace isn't full
abbrev pub probe_fits : Present → ThinProbe → Bool
probe_fits objects probe =
    fits (is_some (value_at (inner_at objects.probes probe.namespace) probe.name)) (count_in objects probe.namespace)

-- the item puts an object that is taken
abbrev pub is_taken : Present → Item → Bool
is_taken objects Broken = false
is_taken objects NotYet = false
is_taken objects (Rule rule) = rule_fits objects rule
is_taken objects (Probe probe) = probe_fits objects probe

-- the rule is put in its place
abbrev pub with_rule : Present → ThinRule → Present
with_rule objects rule =
    record { rules = with_inner objects.rules rule.namespace rule.name rule; probes = objects.probes }

-- the probe is put in its place
abbrev pub with_probe : Present → ThinProbe → Present
with_probe objects probe =
    record { rules = objects.rules; probes = with_inner objects.probes probe.namespace probe.name probe }

-- the objects with the item's one, in place of an earlier one of its key
abbrev pub with_item : Present → Item → Present
with_item objects Broken = objects
with_item objects NotYet = objects
with_item objects (Rule rule) = with_rule objects rule
with_item objects (Probe probe) = with_probe objects probe

-- the objects that are present after an item
abbrev pub objects_after : Present → Item → Present
objects_after objects item = if is_taken objects item then with_item objects item else objects

-- all objects of a kind, by namespace and name
abbrev pub all_of : {X : Type 0} → Map (Map X) → List X
all_of objects = flat_map values_of (values_of objects)

-- the expressions of the rules that are taken are scalars or vectors
abbrev pub AreJudged : Map (Map ThinRule) → Type 0
AreJudged rules = AllByRecursion (λ inner. AllByRecursion (λ entry. IsTyped entry.1.judged) inner.1) rules
