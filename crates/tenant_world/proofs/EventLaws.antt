-- Each event is seen by a namespace as its own world takes it; by induction, the run is.
use Rattle.std.proofs.Common.{◌≡◌, ℕ, Bool, true, false, cond, List, [], ◌∷◌, ◌++◌, map, filter, is_some, Option, None, Some, nat_eq, refl, sym, ap, subst, ◌∙◌}
use Rattle.std.specs.List.{filter_map, cons_option}
use Rattle.std.specs.Ordering.{nat_cmp}
use Rattle.std.specs.Cmp.Lexicographic.{pointwise, bytes_decides, slice_cmp, nat_list_cmp_total}
use Rattle.std.specs.FinMap.Entries.{is_sorted-put, find-put}
use Rattle.op_base.specs.declared.moment.Moment.{Moment}
use Rattle.op_base.specs.Names.{is_namespace}
use Rattle.op_base.specs.Maps.{Map, value_at, with_entry}
use Rattle.op_input.specs.declared.line.InputLine.TheVariants.{Page, Tick, NotYet as NotYetInput, Bad}
use Rattle.op_report.specs.declared.view.View.{View}
use Rattle.op_thin.specs.declared.rule.ThinRule.{ThinRule}
use Rattle.op_thin.specs.declared.probe.ThinProbe.{ThinProbe}
use Rattle.op_thin.specs.declared.item.Item.TheVariants.{Broken, NotYet, Rule, Probe}
use Rattle.op_thin.specs.Items.{IsThinProbe}
use Rattle.op_thin.specs.Compiled.{config_of}
use Rattle.op_thin.specs.Objects.{rule_fits, probe_fits}
use Rattle.srv_run.specs.Memories.{Ticked}
use Rattle.srv_run.specs.Served.{late, tick_of}
use Rattle.tenant_world.specs.Events.{ReadEvent, manifest, given, long, HasNames, HaveNames}
use Rattle.op_report.specs.ReadBack.{views_for}
use Rattle.tenant_world.specs.Isolation.{IsIsolated}
use Rattle.tenant_world.specs.Owners.{Own, rule, probe, owner, is_own, stripped, own_events}
use Rattle.tenant_world.specs.Runs.{World, beginning, next, said, run, after_item, tick_served, tick_said, item_report, rule_view, probe_view}
use Rattle.tenant_world.specs.Tenants.{Tenant, with_rule, with_probe, with_tick, rule_has_room, probe_has_room, own_tick_said, own_next, own_said, own_run, own_tick_view}
use Rattle.tenant_world.proofs.LineLaws.{views_for-append, tick-told}
use Rattle.tenant_world.proofs.ObjectLaws.{good-with, inner-own, inner-other, tied, not_tied}
use Rattle.tenant_world.proofs.RunLaws.{GoodWorld, seen, rule_home, probe_home, IsAnyRule, HasThinTexts, tick-seen, tick-own}

-- what an event is to a namespace, if it is its own or everyone's
abbrev own_of : List ℕ → ReadEvent → Option Own
own_of n event = cond (is_own n (owner event)) (stripped event) None

abbrev taken_up : List ℕ → Tenant → Option Own → Tenant
taken_up n tenant None = tenant
taken_up n tenant (Some event) = own_next n tenant event

abbrev told : List ℕ → Tenant → Option Own → List View
told n tenant None = []
told n tenant (Some event) = own_said n tenant event

-- an event is seen so, leaves a good world, and says to the namespace what its own world says
record Seen (n : List ℕ) (world : World) (event : ReadEvent) : Type 0 where
  good : GoodWorld (next world event)
  after : seen n (next world event) ≡ taken_up n (seen n world) (own_of n event)
  views : views_for n (said world event) ≡ told n (seen n world) (own_of n event)

known-own : (known : Map (Unit {0})) (n : List ℕ) → is_some (value_at (with_entry known n tt) n) ≡ true
known-own known n =
    ap is_some (find-put (slice_cmp nat_cmp) nat_list_cmp_total n n tt known) ∙ ap (λ b. is_some (cond b (Some tt) (value_at known n))) (tied n)

known-other : (known : Map (Unit {0})) (n m : List ℕ) → pointwise nat_eq n m ≡ false → is_some (value_at (with_entry known m tt) n) ≡ is_some (value_at known n)
known-other known n m other =
    ap is_some (find-put (slice_cmp nat_cmp) nat_list_cmp_total n m tt known) ∙ ap (λ b. is_some (cond b (Some tt) (value_at known n))) (not_tied n m other)

module _ (n : List ℕ) (world : World) (good : GoodWorld world) where
  rule_good : (r : ThinRule) (taken : Bool) → is_namespace r.namespace ≡ true → GoodWorld (after_item world (Rule r) taken)
  rule_good r false named = good
  rule_good r true named = record {
    rules = good-with rule_home IsAnyRule world.objects.rules r.name r named tt good.rules;
    probes = good.probes;
    states = good.states;
    known = is_sorted-put (slice_cmp nat_cmp) nat_list_cmp_total r.namespace tt world.served.known good.known;
  }

  probe_good : (p : ThinProbe) (taken : Bool) → IsThinProbe p → GoodWorld (after_item world (Probe p) taken)
  probe_good p false named = good
  probe_good p true named = record {
    rules = good.rules;
    probes = good-with probe_home HasThinTexts world.objects.probes p.name p named.0 (named.1, named.2) good.probes;
    states = good.states;
    known = is_sorted-put (slice_cmp nat_cmp) nat_list_cmp_total p.namespace tt world.served.known good.known;
  }

  -- an object of another namespace isn't seen
  other_rule : (file : List ℕ) (r : ThinRule) (taken : Bool) → pointwise nat_eq n r.namespace ≡ false
      → (seen n (after_item world (Rule r) taken) ≡ seen n world) × (views_for n (item_report file (Rule r) taken ∷ []) ≡ [])
  other_rule file r false other = (refl, refl)
  other_rule file r true other = (
    λ i. record (seen n world) {
      rules = inner-other rule_home n world.objects.rules r.name r other i;
      known = known-other world.served.known n r.namespace other i;
    },
    ap (λ b. map (λ r. r.view) (cond b (item_report file (Rule r) true ∷ []) [])) other,
  )

  other_probe : (file : List ℕ) (p : ThinProbe) (taken : Bool) → pointwise nat_eq n p.namespace ≡ false
      → (seen n (after_item world (Probe p) taken) ≡ seen n world) × (views_for n (item_report file (Probe p) taken ∷ []) ≡ [])
  other_probe file p false other = (refl, refl)
  other_probe file p true other = (
    λ i. record (seen n world) {
      probes = inner-other probe_home n world.objects.probes p.name p other i;
      known = known-other world.served.known n p.namespace other i;
    },
    ap (λ b. map (λ r. r.view) (cond b (item_report file (Probe p) true ∷ []) [])) other,
  )

-- an own object is taken as the own world takes it
own_rule : (world : World) (file : List ℕ) (r : ThinRule) (taken : Bool)
    → (seen r.namespace (after_item world (Rule r) taken) ≡ with_rule (seen r.namespace world) r taken)
    × (views_for r.namespace (item_report file (Rule r) taken ∷ []) ≡ cond taken (rule_view r ∷ []) [])
own_rule world file r false = (refl, refl)
own_rule world file r true = (
  λ i. record (seen r.namespace world) {
    rules = inner-own rule_home world.objects.rules r.name r i;
    known = known-own world.served.known r.namespace i;
  },
  ap (λ b. map (λ x. x.view) (cond b (item_report file (Rule r) true ∷ []) [])) ((bytes_decides r.namespace r.namespace).1 refl),
)

own_probe : (world : World) (file : List ℕ) (p : ThinProbe) (taken : Bool)
    → (seen p.namespace (after_item world (Probe p) taken) ≡ with_probe (seen p.namespace world) p taken)
    × (views_for p.namespace (item_report file (Probe p) taken ∷ []) ≡ cond taken (probe_view p ∷ []) [])
own_probe world file p false = (refl, refl)
own_probe world file p true = (
  λ i. record (seen p.namespace world) {
    probes = inner-own probe_home world.objects.probes p.name p i;
    known = known-own world.served.known p.namespace i;
  },
  ap (λ b. map (λ x. x.view) (cond b (item_report file (Probe p) true ∷ []) [])) ((bytes_decides p.namespace p.namespace).1 refl),
)

rule-seen : (n : List ℕ) (world : World) (file : List ℕ) (r : ThinRule) → GoodWorld world → is_namespace r.namespace ≡ true → Seen n world (manifest file (Rule r))
rule-seen n world file r good named =
    elim (pointwise nat_eq n r.namespace) as (λ b. pointwise nat_eq n r.namespace ≡ b → Seen n world (manifest file (Rule r))) [
      | true ↦ λ is.
          let same = (bytes_decides n r.namespace).0 is in
          let facts = own_rule world file r (rule_fits world.objects r) in
          record {
            good = rule_good n world good r (rule_fits world.objects r) named;
            after = subst (λ m. seen m (after_item world (Rule r) (rule_fits world.objects r)) ≡ with_rule (seen m world) r (rule_has_room (seen m world) r)) (sym same) facts.0
                ∙ ap (λ b. taken_up n (seen n world) (cond b (Some (rule r)) None)) (sym is);
            views = subst (λ m. views_for m (item_report file (Rule r) (rule_fits world.objects r) ∷ []) ≡ cond (rule_has_room (seen m world) r) (rule_view r ∷ []) []) (sym same) facts.1
                ∙ ap (λ b. told n (seen n world) (cond b (Some (rule r)) None)) (sym is);
          }
      | false ↦ λ other.
          let facts = other_rule n world good file r (rule_fits world.objects r) other in
          record {
            good = rule_good n world good r (rule_fits world.objects r) named;
            after = facts.0 ∙ ap (λ b. taken_up n (seen n world) (cond b (Some (rule r)) None)) (sym other);
            views = facts.1 ∙ ap (λ b. told n (seen n world) (cond b (Some (rule r)) None)) (sym other);
          }
    ] refl

probe-seen : (n : List ℕ) (world : World) (file : List ℕ) (p : ThinProbe) → GoodWorld world → IsThinProbe p → Seen n world (manifest file (Probe p))
probe-seen n world file p good named =
    elim (pointwise nat_eq n p.namespace) as (λ b. pointwise nat_eq n p.namespace ≡ b → Seen n world (manifest file (Probe p))) [
      | true ↦ λ is.
          let same = (bytes_decides n p.namespace).0 is in
          let facts = own_probe world file p (probe_fits world.objects p) in
          record {
            good = probe_good n world good p (probe_fits world.objects p) named;
            after = subst (λ m. seen m (after_item world (Probe p) (probe_fits world.objects p)) ≡ with_probe (seen m world) p (probe_has_room (seen m world) p)) (sym same) facts.0
                ∙ ap (λ b. taken_up n (seen n world) (cond b (Some (probe p)) None)) (sym is);
            views = subst (λ m. views_for m (item_report file (Probe p) (probe_fits world.objects p) ∷ []) ≡ cond (probe_has_room (seen m world) p) (probe_view p ∷ []) []) (sym same) facts.1
                ∙ ap (λ b. told n (seen n world) (cond b (Some (probe p)) None)) (sym is);
          }
      | false ↦ λ other.
          let facts = other_probe n world good file p (probe_fits world.objects p) other in
          record {
            good = probe_good n world good p (probe_fits world.objects p) named;
            after = facts.0 ∙ ap (λ b. taken_up n (seen n world) (cond b (Some (probe p)) None)) (sym other);
            views = facts.1 ∙ ap (λ b. told n (seen n world) (cond b (Some (probe p)) None)) (sym other);
          }
    ] refl

abbrev ticked_world : World → Moment → Option Moment → World
ticked_world world t late = record world { served = tick_served (config_of world.objects) world.served t late }

-- a tick is late for all or for none
record TickSeen (n : List ℕ) (world : World) (number : ℕ) (t : Moment) (late : Option Moment) : Type 0 where
  good : GoodWorld (ticked_world world t late)
  after : seen n (ticked_world world t late) ≡ with_tick n (seen n world) t late
  views : views_for n (tick_said (config_of world.objects) world.served number t late) ≡ own_tick_said n (seen n world) t late

tick_seen : (n : List ℕ) (world : World) (number : ℕ) (t : Moment) (late : Option Moment) → GoodWorld world → TickSeen n world number t late
tick_seen n world number t (Some last) good = record { good = good; after = refl; views = refl }
tick_seen n world number t None good =
    let same = tick-seen n world good t in
    record {
      good = record { rules = good.rules; probes = good.probes; states = tick-own n world good t; known = good.known };
      after = λ i. record (seen n world) { memory = (same i).memory; last = Some t };
      views = tick-told n (tick_of (config_of world.objects) world.served t) t world.served.known good.known
          ∙ ap (λ (given : Ticked). cond (is_some (value_at world.served.known n)) (own_tick_view given t ∷ []) []) same;
    }

event-seen : (n : List ℕ) (world : World) (event : ReadEvent) → GoodWorld world → HasNames event → Seen n world event
event-seen n world (manifest file Broken) good named = record { good = good; after = refl; views = refl }
event-seen n world (manifest file NotYet) good named = record { good = good; after = refl; views = refl }
event-seen n world (manifest file (Rule r)) good named = rule-seen n world file r good named
event-seen n world (manifest file (Probe p)) good named = probe-seen n world file p good named
event-seen n world (given number (Page url samples)) good named = record {
  good = record { rules = good.rules; probes = good.probes; states = good.states; known = good.known };
  after = refl;
  views = refl;
}
event-seen n world (given number (Tick t)) good named =
    let facts = tick_seen n world number t (late world.served.last t) good in
    record { good = facts.good; after = facts.after; views = facts.views }
event-seen n world (given number NotYetInput) good named = record { good = good; after = refl; views = refl }
event-seen n world (given number (Bad shape)) good named = record { good = good; after = refl; views = refl }
event-seen n world (long number) good named = record { good = good; after = refl; views = refl }

-- an event's own part, in front of the others'
own_first : (n : List ℕ) (event : ReadEvent) (events : List ReadEvent) → own_events n (event ∷ events) ≡ cons_option (own_of n event) (own_events n events)
own_first n event events =
    elim (is_own n (owner event)) as (λ b. filter_map stripped (cond b (event ∷ filter (λ e. is_own n (owner e)) events) (filter (λ e. is_own n (owner e)) events))
    ≡ cons_option (cond b (stripped event) None) (own_events n events)) [
      | true ↦ refl
      | false ↦ refl
    ]

own_run_first : (n : List ℕ) (tenant : Tenant) (event : Option Own) (events : List Own) → own_run n tenant (cons_option event events) ≡ told n tenant event ++ own_run n (taken_up n tenant event) events
own_run_first n tenant None events = refl
own_run_first n tenant (Some event) events = refl

-- the run is seen as the own run
run-seen : (n : List ℕ) (world : World) (events : List ReadEvent) → GoodWorld world → HaveNames events → views_for n (run world events) ≡ own_run n (seen n world) (own_events n events)
run-seen n world [] good named = refl
run-seen n world (event ∷ events) good named =
    let facts = event-seen n world event good named.0 in
    views_for-append n (said world event) (run (next world event) events)
    ∙ ap (λ l. l ++ views_for n (run (next world event) events)) facts.views
    ∙ ap (λ l. told n (seen n world) (own_of n event) ++ l)
    (run-seen n (next world event) events facts.good named.1 ∙ ap (λ (x : Tenant). own_run n x (own_events n events)) facts.after)
    ∙ sym (own_run_first n (seen n world) (own_of n event) (own_events n events))
    ∙ ap (own_run n (seen n world)) (sym (own_first n event events))

good_beginning : GoodWorld beginning
good_beginning = record { rules = (tt, tt); probes = (tt, tt); states = tt; known = tt }

-- what is said to a namespace is what its own world says
pub isolated : IsIsolated
isolated n events named names = run-seen n beginning events good_beginning names
