-- The run of everyone is seen by a namespace as the run of its own world.
use Rattle.std.proofs.Common.{◌≡◌, ℕ, ◌<◌, true, false, T, List, [], map, filter, length, is_some, nat_eq, refl, sym, ap, subst, ◌∙◌}
use Rattle.std.specs.List.{AllByRecursion, flat_map}
use Rattle.std.specs.declared.cmp.Ordering.{Ordering}
use Rattle.std.specs.Ordering.{nat_cmp}
use Rattle.std.specs.Cmp.Lexicographic.{slice_cmp}
use Rattle.std.specs.FinMap.Entries.{is_sorted}
use Rattle.op_base.specs.declared.moment.Moment.{Moment}
use Rattle.op_base.specs.Maps.{value_at}
use Rattle.cfg_types.specs.declared.config.RuleFile.{RuleFile}
use Rattle.op_thin.specs.declared.rule.ThinRule.{ThinRule}
use Rattle.op_thin.specs.declared.probe.ThinProbe.{ThinProbe}
use Rattle.op_thin.specs.Compiled.{config_of, file_of, job_of}
use Rattle.op_thin.specs.FileOrder.{in_order}
use Rattle.op_thin.specs.Objects.{inner_at, all_of}
use Rattle.op_thin.specs.ThinProbes.{is_thin_text}
use Rattle.srv_store.specs.declared.entry.Entry.{Entry}
use Rattle.srv_store.specs.Stores.{of_namespace}
use Rattle.srv_scrape.specs.Ticks.{scraped_entries}
use Rattle.srv_run.specs.Memories.{ticked}
use Rattle.srv_run.specs.Served.{tick_of}
use Rattle.tenant_world.specs.Runs.{World}
use Rattle.tenant_world.specs.Tenants.{Tenant, home_label, written_file, written_files, probe_entries, own_entries, own_ticked}
use Rattle.tenant_world.proofs.EnforcedFiles.{enforced_file, IsFineFile, is_of}
use Rattle.tenant_world.proofs.MemoryLaws.{memory_of, ticked_of, ticked-of, ticked-own}
use Rattle.tenant_world.proofs.NameLemmas.{name-some, name-slash, name-plain, thin-some, thin-plain}
use Rattle.tenant_world.proofs.ObjectLaws.{Good, all-at, all-homes}
use Rattle.tenant_world.proofs.OrderLaws.{in_order-map, ordered-of, all-ordered, HasNoSlash}
use Rattle.tenant_world.proofs.RecordingLaws.{recordings, recordings-of, recordings-have, enforced-written, written-of, written-have, written-fine}
use Rattle.tenant_world.proofs.RoundLaws.{OwnStates}
use Rattle.tenant_world.proofs.ScrapeLaws.{IsThin, probes-of}

abbrev by_bytes : List ℕ → List ℕ → Ordering
by_bytes = slice_cmp nat_cmp

abbrev pub rule_home : ThinRule → List ℕ
rule_home r = r.namespace

abbrev pub probe_home : ThinProbe → List ℕ
probe_home p = p.namespace

abbrev pub IsAnyRule : ThinRule → Type 0
IsAnyRule r = Unit {0}

abbrev pub HasThinTexts : ThinProbe → Type 0
HasThinTexts p = (is_thin_text p.url ≡ true) × (is_thin_text p.target ≡ true)

-- what is kept of the world of everyone
pub record GoodWorld (world : World) : Type 0 where
  pub rules : Good rule_home IsAnyRule world.objects.rules
  pub probes : Good probe_home HasThinTexts world.objects.probes
  pub states : OwnStates world.served.memory.states
  pub known : T (is_sorted by_bytes world.served.known)

-- what a namespace sees of it
abbrev pub seen : List ℕ → World → Tenant
seen n world = record {
  rules = inner_at world.objects.rules n;
  probes = inner_at world.objects.probes n;
  pages = world.served.pages;
  memory = memory_of n world.served.memory;
  last = world.served.last;
  known = is_some (value_at world.served.known n);
}

-- a tick of the configuration is seen as the tick of the own world
module _ (n : List ℕ) (world : World) (good : GoodWorld world) (t : Moment) where
  -- the rules that run, as they are written
  abbrev running : List RuleFile
  running = map written_file (recordings (all_of world.objects.rules))

  files_are : in_order (map file_of (recordings (all_of world.objects.rules))) ≡ map enforced_file (in_order running)
  files_are = ap in_order (enforced-written (recordings (all_of world.objects.rules))) ∙ in_order-map enforced_file (λ file. refl) running

  own_files : filter (is_of n) (in_order running) ≡ written_files (inner_at world.objects.rules n)
  own_files =
      ordered-of n running
      (written-have HasNoSlash (recordings (all_of world.objects.rules))
      (recordings-have HasNoSlash (all_of world.objects.rules)
      (all-homes rule_home IsAnyRule (λ r. HasNoSlash r.namespace) (λ r named fine. name-slash r.namespace named) world.objects.rules good.rules)))
      ∙ ap in_order (written-of n (recordings (all_of world.objects.rules))
      ∙ ap (map written_file) (recordings-of n (all_of world.objects.rules) ∙ ap recordings (all-at rule_home IsAnyRule n world.objects.rules good.rules)))

  own_scrapes : of_namespace n (scraped_entries world.served.pages t (map job_of (all_of world.objects.probes))) ≡ own_entries n (seen n world) t
  own_scrapes =
      probes-of n (all_of world.objects.probes) world.served.pages t
      (all-homes probe_home HasThinTexts IsThin
      (λ p named fine. (name-some p.namespace named, name-plain p.namespace named, thin-some p.url fine.0, thin-plain p.url fine.0, thin-some p.target fine.1))
      world.objects.probes good.probes)
      ∙ ap (flat_map (probe_entries n world.served.pages t)) (all-at probe_home HasThinTexts n world.objects.probes good.probes)

  fine_files : AllByRecursion IsFineFile (in_order running)
  fine_files = all-ordered IsFineFile running
      (written-fine (recordings (all_of world.objects.rules))
      (recordings-have (λ m. 0 < length m) (all_of world.objects.rules)
      (all-homes rule_home IsAnyRule (λ r. 0 < length r.namespace) (λ r named fine. name-some r.namespace named) world.objects.rules good.rules)))

  abbrev entries : List Entry
  entries = scraped_entries world.served.pages t (map job_of (all_of world.objects.probes))

  pub tick-seen : ticked_of n (tick_of (config_of world.objects) world.served t) ≡ own_ticked n (seen n world) t
  tick-seen =
      ap (λ files. ticked_of n (ticked entries files [] [] world.served.memory t)) files_are
      ∙ ticked-of n entries (in_order running) world.served.memory t fine_files good.states
      ∙ (λ i. ticked (own_scrapes i) (own_files i) (home_label n) (home_label n) (memory_of n world.served.memory) t)

  pub tick-own : OwnStates (tick_of (config_of world.objects) world.served t).memory.states
  tick-own =
      subst (λ files. OwnStates (ticked entries files [] [] world.served.memory t).memory.states) (sym files_are)
      (ticked-own n entries (in_order running) world.served.memory t fine_files good.states)
