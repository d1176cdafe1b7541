-- Rounds: what all rules do is seen by a namespace as what its own rules do.
use Rattle.std.proofs.Common.{◌≡◌, ℕ, Bool, true, false, not, cond, T, List, [], ◌∷◌, ◌++◌, map, filter, fold, unwrap_or, option_to_list, Option, None, Some, IfSome, nat_eq, refl, sym, ap, subst, ◌∙◌, append-nil}
use Rattle.std.proofs.lemmas.List.Elements.{filter-append}
use Rattle.std.specs.List.{AllByRecursion}
use Rattle.std.specs.declared.cmp.Ordering.{Ordering}
use Rattle.std.specs.declared.cmp.Ordering.TheVariants.{Less, Equal, Greater}
use Rattle.std.specs.Ordering.{nat_cmp, is_eq, on}
use Rattle.std.specs.Cmp.{IsTotalOrder, then_total, on_total, nat_cmp_total}
use Rattle.std.specs.Cmp.Lexicographic.{pointwise, slice_cmp, nat_list_cmp_total}
use Rattle.std.specs.FinMap.{nat_cmp-IsAntisymmetric}
use Rattle.std.specs.FinMap.Entries.{by_order, put, where_key, is_sorted}
use Rattle.op_base.specs.declared.moment.Moment.{Moment}
use Rattle.op_base.specs.Labels.{Texts}
use Rattle.srv_store.specs.declared.entry.Entry.{Entry}
use Rattle.srv_store.specs.LabelMaps.{has_labels, labels_in, stale_entries}
use Rattle.srv_store.specs.Stores.{Vector, with_all, owns, of_namespace}
use Rattle.srv_rule.specs.declared.states.RuleId.{RuleId}
use Rattle.srv_rule.specs.declared.view.FailedRule.{FailedRule}
use Rattle.srv_rule.specs.Rounds.{States, Ran, Placed, id_cmp, id_of, last_of, value_entries, after_results}
use Rattle.srv_run.specs.Shares.{failed_of}
use Rattle.srv_store.proofs.OrderLemmas.{first_equal, second_equal, text_same}
use Rattle.tenant_world.proofs.EnforcedFiles.{enforced_placed}
use Rattle.tenant_world.proofs.KeyLemmas.{where_key-put_kept, where_key-put_dropped}
use Rattle.tenant_world.proofs.ResultLaws.{Own, same_name, others_labels}
use Rattle.tenant_world.proofs.StoreLaws.{of-append, with_all-of}
use Rattle.tenant_world.proofs.TickLaws.{stale_at, stale-of}

abbrev texts_of : (RuleId → List ℕ) → RuleId → RuleId → Ordering
texts_of f = on f (slice_cmp nat_cmp)

pub id_total : IsTotalOrder id_cmp
id_total =
    then_total (on_total (λ (id : RuleId). id.file) nat_list_cmp_total)
    (then_total (on_total (λ (id : RuleId). id.namespace) nat_list_cmp_total)
    (then_total (on_total (λ (id : RuleId). id.group) nat_list_cmp_total)
    (then_total (on_total (λ (id : RuleId). id.place) nat_cmp_total) (on_total (λ (id : RuleId). id.name) nat_list_cmp_total))))

-- rules that tie are the same
pub id_same : (x y : RuleId) → id_cmp x y ≡ Equal → x ≡ y
id_same x y h =
    let a = first_equal (texts_of (λ id. id.file) x y) _ h in
    let h1 = second_equal (texts_of (λ id. id.file) x y) _ h in
    let b = first_equal (texts_of (λ id. id.namespace) x y) _ h1 in
    let h2 = second_equal (texts_of (λ id. id.namespace) x y) _ h1 in
    let c = first_equal (texts_of (λ id. id.group) x y) _ h2 in
    let h3 = second_equal (texts_of (λ id. id.group) x y) _ h2 in
    let d = first_equal (nat_cmp x.place y.place) _ h3 in
    let e = second_equal (nat_cmp x.place y.place) _ h3 in
    λ i. record {
      file = text_same x.file y.file a i;
      namespace = text_same x.namespace y.namespace b i;
      group = text_same x.group y.group c i;
      place = nat_cmp-IsAntisymmetric x.place y.place d i;
      name = text_same x.name y.name e i;
    }

-- the state is of a rule of the namespace
abbrev pub of_home : List ℕ → RuleId → Bool
of_home n id = pointwise nat_eq n id.namespace

abbrev pub states_of : List ℕ → States → States
states_of n states = where_key id_cmp (of_home n) states

-- what a namespace sees of a round
abbrev pub ran_of : List ℕ → Ran → Ran
ran_of n ran = record { store = of_namespace n ran.store; states = states_of n ran.states; failed = failed_of n ran.failed }

-- the label sets of a state are its namespace's
abbrev pub OwnSets : List ℕ → List Texts → Type 0
OwnSets m sets = AllByRecursion (λ l. owns m l ≡ true) sets

abbrev pub OwnStates : States → Type 0
OwnStates states = AllByRecursion (λ (s : RuleId × List Texts). OwnSets s.0.namespace s.1) states

pub own-find : (states : States) (id : RuleId) → OwnStates states → IfSome (last_of states id) (OwnSets id.namespace)
own-find [] id h = tt
own-find (s ∷ states) id h =
    elim (id_cmp id s.0) as (λ o. id_cmp id s.0 ≡ o → IfSome (cond (is_eq o) (Some s.1) (last_of states id)) (OwnSets id.namespace)) [
      | Less ↦ λ _. own-find states id h.1
      | Equal ↦ λ is. subst (λ (x : RuleId). OwnSets x.namespace s.1) (sym (id_same id s.0 is)) h.0
      | Greater ↦ λ _. own-find states id h.1
    ] refl

pub own-state : (states : States) (id : RuleId) (sets : List Texts) → OwnSets id.namespace sets → OwnStates states → OwnStates (put id_cmp id sets states)
own-state [] id sets own h = (own, tt)
own-state (s ∷ states) id sets own h =
    elim (id_cmp id s.0) as (λ o. id_cmp id s.0 ≡ o → OwnStates (by_order o ((id, sets) ∷ s ∷ states) ((s.0, sets) ∷ states) (s ∷ put id_cmp id sets states))) [
      | Less ↦ λ _. (own, h)
      | Equal ↦ λ is. (subst (λ (x : RuleId). OwnSets x.namespace sets) (id_same id s.0 is) own, h.1)
      | Greater ↦ λ _. (h.0, own-state states id sets own h.1)
    ] refl

pub own-labels : (m : List ℕ) (results : Vector) → Own m results → OwnSets m (labels_in results)
own-labels m [] h = tt
own-labels m (e ∷ results) h = (h.0, own-labels m results h.1)

-- all of a namespace's sets are seen by it, and none of another's
all_seen : (n : List ℕ) (sets : List Texts) → OwnSets n sets → filter (owns n) sets ≡ sets
all_seen n [] h = refl
all_seen n (l ∷ ls) h = ap (λ b. cond b (l ∷ filter (owns n) ls) (filter (owns n) ls)) h.0 ∙ ap (λ x. l ∷ x) (all_seen n ls h.1)

none_seen : (n m : List ℕ) (sets : List Texts) → pointwise nat_eq n m ≡ false → OwnSets m sets → filter (owns n) sets ≡ []
none_seen n m [] other h = refl
none_seen n m (l ∷ ls) other h = ap (λ b. cond b (l ∷ filter (owns n) ls) (filter (owns n) ls)) (others_labels n m l other h.0) ∙ none_seen n m ls other h.1

values-seen : (n : List ℕ) (t : Moment) (results : Vector) → Own n results → of_namespace n (value_entries t results) ≡ value_entries t results
values-seen n t [] h = refl
values-seen n t (e ∷ es) h =
    let this : Entry = record { labels = e.0; at = t; value = Some e.1 } in
    ap (λ b. cond b (this ∷ of_namespace n (value_entries t es)) (of_namespace n (value_entries t es))) h.0 ∙ ap (λ x. this ∷ x) (values-seen n t es h.1)

values-unseen : (n m : List ℕ) (t : Moment) (results : Vector) → pointwise nat_eq n m ≡ false → Own m results → of_namespace n (value_entries t results) ≡ []
values-unseen n m t [] other h = refl
values-unseen n m t (e ∷ es) other h =
    let this : Entry = record { labels = e.0; at = t; value = Some e.1 } in
    ap (λ b. cond b (this ∷ of_namespace n (value_entries t es)) (of_namespace n (value_entries t es))) (others_labels n m e.0 other h.0) ∙ values-unseen n m t es other h.1

pub stale-seen : (n : List ℕ) (t : Moment) (sets : List Texts) (now : Vector) → OwnSets n sets → of_namespace n (stale_entries t sets now) ≡ stale_entries t sets now
stale-seen n t sets now h =
    stale-of n t (λ l. not (has_labels now l)) (λ l. not (has_labels now l)) sets (λ l own. refl)
    ∙ ap (λ ls. map (stale_at t) (filter (λ l. not (has_labels now l)) ls)) (all_seen n sets h)

pub stale-unseen : (n m : List ℕ) (t : Moment) (sets : List Texts) (now : Vector) → pointwise nat_eq n m ≡ false → OwnSets m sets → of_namespace n (stale_entries t sets now) ≡ []
stale-unseen n m t sets now other h =
    stale-of n t (λ l. not (has_labels now l)) (λ l. not (has_labels now l)) sets (λ l own. refl)
    ∙ ap (λ ls. map (stale_at t) (filter (λ l. not (has_labels now l)) ls)) (none_seen n m sets other h)

last_own : (m : List ℕ) (last : Option (List Texts)) → IfSome last (OwnSets m) → OwnSets m (unwrap_or last [])
last_own m None h = tt
last_own m (Some sets) h = h

abbrev pub kept_states : RuleId → States → Option (List Texts) → States
kept_states id states last = fold (λ kept sets. put id_cmp id sets kept) states (option_to_list last)

abbrev failed_rule : Placed → FailedRule
failed_rule placed = record { namespace = placed.namespace; name = placed.object; group = placed.group; index = placed.place }

module _ (n : List ℕ) where
  states-kept : (id : RuleId) (states : States) (last : Option (List Texts)) → of_home n id ≡ true → T (is_sorted id_cmp states)
      → states_of n (kept_states id states last) ≡ kept_states id (states_of n states) last
  states-kept id states None own h = refl
  states-kept id states (Some sets) own h = where_key-put_kept id_cmp id_total id_same (of_home n) id sets states own h

  states-dropped : (id : RuleId) (states : States) (last : Option (List Texts)) → of_home n id ≡ false → T (is_sorted id_cmp states)
      → states_of n (kept_states id states last) ≡ states_of n states
  states-dropped id states None other h = refl
  states-dropped id states (Some sets) other h = where_key-put_dropped id_cmp id_total id_same (of_home n) id sets states other h

  failed-seen : (failed : List FailedRule) (rule : FailedRule) → pointwise nat_eq n rule.namespace ≡ true → failed_of n (failed ++ rule ∷ []) ≡ failed_of n failed ++ rule ∷ []
  failed-seen failed rule own =
      filter-append (λ (f : FailedRule). pointwise nat_eq n f.namespace) failed (rule ∷ []) ∙ ap (λ b. failed_of n failed ++ cond b (rule ∷ []) []) own

  failed-unseen : (failed : List FailedRule) (rule : FailedRule) → pointwise nat_eq n rule.namespace ≡ false → failed_of n (failed ++ rule ∷ []) ≡ failed_of n failed
  failed-unseen failed rule other =
      filter-append (λ (f : FailedRule). pointwise nat_eq n f.namespace) failed (rule ∷ []) ∙ ap (λ b. failed_of n failed ++ cond b (rule ∷ []) []) other ∙ append-nil (failed_of n failed)

-- an own rule
module _ (r : Placed) (t : Moment) where
  abbrev n : List ℕ
  n = r.namespace

  pub own-results : (ran : Ran) (last : Option (List Texts)) (results : Option Vector) → IfSome results (Own r.namespace) → IfSome last (OwnSets r.namespace) → T (is_sorted id_cmp ran.states)
      → ran_of r.namespace (after_results t ran (enforced_placed r) last results) ≡ after_results t (ran_of r.namespace ran) r last results
  own-results ran last None own sets h = λ i. record {
    store = of_namespace r.namespace ran.store;
    states = states-kept r.namespace (id_of r) ran.states last (same_name r.namespace) h i;
    failed = failed-seen r.namespace ran.failed (failed_rule r) (same_name r.namespace) i;
  }
  own-results ran last (Some results) own sets h = λ i. record {
    store = (with_all-of r.namespace ran.store (value_entries t results ++ stale_entries t (unwrap_or last []) results)
        ∙ ap (with_all (of_namespace r.namespace ran.store))
        (of-append r.namespace (value_entries t results) (stale_entries t (unwrap_or last []) results)
        ∙ ap (λ l. l ++ of_namespace r.namespace (stale_entries t (unwrap_or last []) results)) (values-seen r.namespace t results own)
        ∙ ap (λ l. value_entries t results ++ l) (stale-seen r.namespace t (unwrap_or last []) results (last_own r.namespace last sets)))) i;
    states = where_key-put_kept id_cmp id_total id_same (of_home r.namespace) (id_of r) (labels_in results) ran.states (same_name r.namespace) h i;
    failed = failed_of r.namespace ran.failed;
  }

-- another's rule
module _ (n : List ℕ) (r : Placed) (t : Moment) (other : pointwise nat_eq n r.namespace ≡ false) where
  pub other-results : (ran : Ran) (last : Option (List Texts)) (results : Option Vector) → IfSome results (Own r.namespace) → IfSome last (OwnSets r.namespace) → T (is_sorted id_cmp ran.states)
      → ran_of n (after_results t ran (enforced_placed r) last results) ≡ ran_of n ran
  other-results ran last None own sets h = λ i. record {
    store = of_namespace n ran.store;
    states = states-dropped n (id_of r) ran.states last other h i;
    failed = failed-unseen n ran.failed (failed_rule r) other i;
  }
  other-results ran last (Some results) own sets h = λ i. record {
    store = (with_all-of n ran.store (value_entries t results ++ stale_entries t (unwrap_or last []) results)
        ∙ ap (with_all (of_namespace n ran.store))
        (of-append n (value_entries t results) (stale_entries t (unwrap_or last []) results)
        ∙ ap (λ l. l ++ of_namespace n (stale_entries t (unwrap_or last []) results)) (values-unseen n r.namespace t results other own)
        ∙ stale-unseen n r.namespace t (unwrap_or last []) results other (last_own r.namespace last sets))
        ∙ append-nil (of_namespace n ran.store)) i;
    states = where_key-put_dropped id_cmp id_total id_same (of_home n) (id_of r) (labels_in results) ran.states other h i;
    failed = failed_of n ran.failed;
  }
