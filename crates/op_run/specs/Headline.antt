-- Isolation, as the bytes of a run show it.
use Rattle.std.specs.Prelude.{◌≡◌, ℕ, true, List, [], ◌∷◌, ◌++◌, map, Option}
use Rattle.std.specs.Io.KnownBytes.{Appends}
use Rattle.op_base.specs.Names.{is_namespace}
use Rattle.op_edges.specs.Lines.{lines_of}
use Rattle.op_report.specs.ReadBack.{lines_for, line_text}
use Rattle.tenant_world.specs.Owners.{own_events}
use Rattle.tenant_world.specs.Tenants.{tenant_views}
use Rattle.op_run.specs.declared.files.NamedFile.{NamedFile}
use Rattle.op_run.specs.Inputs.{events_of}
use Rattle.op_run.specs.Outputs.{final_text}

-- what a sink took of a run: the lines that begin with a namespace and a TAB are those of its own world, in
-- order, and the last line is the from-scratch text of the objects present
pub record Headline (files : List NamedFile) (bytes : List ℕ) (before now : Option (List ℕ)) : Type 0 where
  pub took : List ℕ
  pub written : Appends before now took
  pub tenants : (n : List ℕ) → is_namespace n ≡ true
      → lines_for n took ≡ map (line_text n) (tenant_views n (own_events n (events_of files bytes)))
  pub lines : List (List ℕ)
  pub last : lines_of took ≡ lines ++ final_text (events_of files bytes) ∷ []
