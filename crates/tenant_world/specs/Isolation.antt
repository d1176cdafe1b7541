-- Isolation: what is said to a tenant is what its own world says.
use Rattle.std.specs.Prelude.{◌≡◌, ℕ, true, List}
use Rattle.op_base.specs.Names.{is_namespace}
use Rattle.op_report.specs.ReadBack.{views_for}
use Rattle.tenant_world.specs.Events.{ReadEvent, HaveNames}
use Rattle.tenant_world.specs.Owners.{own_events}
use Rattle.tenant_world.specs.Runs.{beginning, run}
use Rattle.tenant_world.specs.Tenants.{tenant_views}

-- for every namespace and all events, what the run says to it is what its own world says
abbrev pub IsIsolated : Type 0
IsIsolated = (n : List ℕ) (events : List ReadEvent) → is_namespace n ≡ true → HaveNames events
    → views_for n (run beginning events) ≡ tenant_views n (own_events n events)
