-- Whose a line is. Pages and ticks are everyone's, and so are the objects that the administrator writes.
use Rattle.std.specs.Prelude.{ℕ, List, Bool, true, false, Option, Some, None, if◌then◌else◌}
use Rattle.op_base.specs.declared.key.Key.{Key}
use Rattle.op_base.specs.declared.kind.Kind.{Kind}
use Rattle.op_base.specs.declared.kind.Kind.TheVariants.{Namespace, Prometheus, Alertmanager}
use Rattle.op_input.specs.Events.{Event, put, delete, refused_delete, targets, refused_targets, page, tick, bad}

pub data Owner : Type 0 where
  -- the namespace's alone
  of : List ℕ → Owner
  everyone : Owner
  nobody : Owner

-- the kinds that are everyone's
abbrev pub is_everyones : Kind → Bool
is_everyones Namespace = true
is_everyones Prometheus = true
is_everyones Alertmanager = true
is_everyones _ = false

-- whose the object of a key is: its namespace's, unless its kind is everyone's
abbrev pub owner_of_key : Key → Owner
owner_of_key key = if is_everyones key.kind then everyone else of key.namespace

-- whose a line is. A line on an object or on targets is refused and still owned where its key can be read.
abbrev pub owner_of : Event → Owner
owner_of (put key manifest) = owner_of_key key
owner_of (delete key) = owner_of_key key
owner_of (refused_delete key shape) = owner_of_key key
owner_of (targets namespace found) = of namespace
owner_of (refused_targets namespace shape) = of namespace
owner_of (page url samples) = everyone
owner_of (tick moment) = everyone
owner_of (bad shape) = nobody

-- the namespace that an owner is
abbrev pub namespace_of : Owner → Option (List ℕ)
namespace_of (of namespace) = Some namespace
namespace_of everyone = None
namespace_of nobody = None
