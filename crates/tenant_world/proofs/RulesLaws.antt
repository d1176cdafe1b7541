-- All rules of a round, one after the other, and the rules that are gone.
use Rattle.std.proofs.Common.{◌≡◌, ℕ, ℤ, ◌<◌, Bool, true, false, not, cond, T, List, [], ◌∷◌, ◌++◌, map, filter, fold, length, is_some, unwrap_or, Option, None, Some, IfSome, nat_eq, refl, sym, ap, subst, ◌∙◌, append-nil, append_assoc}
use Rattle.std.specs.List.{AllByRecursion}
use Rattle.std.specs.Cmp.Lexicographic.{pointwise, bytes_decides}
use Rattle.std.specs.FinMap.Entries.{find, is_sorted, is_sorted-put, find-where_key}
use Rattle.op_base.specs.declared.moment.Moment.{Moment}
use Rattle.op_base.specs.Labels.{Texts}
use Rattle.cfg_types.specs.declared.config.RuleFile.{RuleFile}
use Rattle.srv_store.specs.LabelMaps.{labels_in, stale_entries}
use Rattle.srv_store.specs.Stores.{Store, Vector, with_all, fresh, of_namespace}
use Rattle.srv_rule.specs.declared.states.RuleId.{RuleId}
use Rattle.ql_eval.specs.Values.{value_of}
use Rattle.srv_rule.specs.Recorded.{results_of}
use Rattle.srv_rule.specs.Rounds.{States, Ran, around, Placed, id_cmp, id_of, last_of, placed_in, placed_of, value_entries, after_results, after_rule, after_rules, gone, gone_entries, without_gone, round_of}
use Rattle.op_base.specs.declared.label_names.TheConstants.{NAMESPACE_LABEL}
use Rattle.tenant_world.specs.Tenants.{home_label}
use Rattle.tenant_world.proofs.EnforcedFiles.{enforced_placed, enforced_file, IsFinePlaced, AreFine, IsFineFile, is_of, is_placed, placed-enforced, placed-fine, placed-of_home}
use Rattle.tenant_world.proofs.KeyLemmas.{alike}
use Rattle.tenant_world.proofs.ResultLaws.{Own, same_name, value-of-rule, results-of, results-own}
use Rattle.tenant_world.proofs.RoundLaws.{id_total, id_same, of_home, states_of, ran_of, OwnSets, OwnStates, own-find, own-state, own-labels, stale-seen, stale-unseen, own-results, other-results}
use Rattle.tenant_world.proofs.StoreLaws.{of-append, with_all-of}

-- what a rule of the configuration makes of the store, and what the rule as it is written makes of it
abbrev given : Placed → Store → Moment → Option Vector
given r store t = results_of r.rule.name (enforced_placed r).rule.labels [] (value_of (around [] store t) (enforced_placed r).rule.expr)

abbrev own_given : Placed → Store → Moment → Option Vector
own_given r store t = results_of r.rule.name r.rule.labels (home_label r.namespace) (value_of (around (home_label r.namespace) (of_namespace r.namespace store) t) r.rule.expr)

given-of : (r : Placed) (store : Store) (t : Moment) → IsFinePlaced r → given r store t ≡ own_given r store t
given-of r store t fine =
    results-of r.namespace r.rule.name r.rule.labels (value_of (around [] store t) (enforced_placed r).rule.expr) fine.1
    ∙ ap (results_of r.rule.name r.rule.labels (home_label r.namespace)) (value-of-rule r store t)

given-own : (r : Placed) (store : Store) (t : Moment) → IsFinePlaced r → IfSome (given r store t) (Own r.namespace)
given-own r store t fine =
    subst (λ (o : Option Vector). IfSome o (Own r.namespace)) (sym (given-of r store t fine))
    (results-own r.namespace r.rule.name r.rule.labels fine.0 (value_of (around (home_label r.namespace) (of_namespace r.namespace store) t) r.rule.expr))

abbrev server_rule : Moment → States → Ran → Placed → Ran
server_rule t before ran r = after_rule [] [] t before ran (enforced_placed r)

abbrev own_rule : List ℕ → Moment → States → Ran → Placed → Ran
own_rule n = after_rule (home_label n) (home_label n)

last-of : (n : List ℕ) (states : States) (id : RuleId) → of_home n id ≡ true → last_of (states_of n states) id ≡ last_of states id
last-of n states id own = find-where_key id_cmp (of_home n) id (alike id_cmp id_same (of_home n) id) states ∙ ap (λ b. cond b (find id_cmp id states) None) own

own-rule : (r : Placed) (t : Moment) (before : States) (ran : Ran) → IsFinePlaced r → OwnStates before → T (is_sorted id_cmp ran.states)
    → ran_of r.namespace (server_rule t before ran r) ≡ own_rule r.namespace t (states_of r.namespace before) (ran_of r.namespace ran) r
own-rule r t before ran fine states h =
    let id = id_of r in
    own-results r t ran (last_of before id) (given r ran.store t) (given-own r ran.store t fine) (own-find before id states) h
    ∙ ap (after_results t (ran_of r.namespace ran) r (last_of before id)) (given-of r ran.store t fine)
    ∙ ap (λ last. after_results t (ran_of r.namespace ran) r last (own_given r ran.store t)) (sym (last-of r.namespace before id (same_name r.namespace)))

other-rule : (n : List ℕ) (r : Placed) (t : Moment) (before : States) (ran : Ran) → pointwise nat_eq n r.namespace ≡ false → IsFinePlaced r → OwnStates before → T (is_sorted id_cmp ran.states)
    → ran_of n (server_rule t before ran r) ≡ ran_of n ran
other-rule n r t before ran other fine states h =
    let id = id_of r in
    other-results n r t other ran (last_of before id) (given r ran.store t) (given-own r ran.store t fine) (own-find before id states) h

-- states stay in order and their sets their own
sorted-results : (t : Moment) (ran : Ran) (r : Placed) (last : Option (List Texts)) (results : Option Vector) → T (is_sorted id_cmp ran.states)
    → T (is_sorted id_cmp (after_results t ran (enforced_placed r) last results).states)
sorted-results t ran r None None h = h
sorted-results t ran r (Some sets) None h = is_sorted-put id_cmp id_total (id_of r) sets ran.states h
sorted-results t ran r last (Some results) h = is_sorted-put id_cmp id_total (id_of r) (labels_in results) ran.states h

own-after : (t : Moment) (ran : Ran) (r : Placed) (last : Option (List Texts)) (results : Option Vector) → IfSome last (OwnSets r.namespace) → IfSome results (Own r.namespace)
    → OwnStates ran.states → OwnStates (after_results t ran (enforced_placed r) last results).states
own-after t ran r None None sets own h = h
own-after t ran r (Some last) None sets own h = own-state ran.states (id_of r) last sets h
own-after t ran r last (Some results) sets own h = own-state ran.states (id_of r) (labels_in results) (own-labels r.namespace results own) h

module _ (t : Moment) (before : States) (states : OwnStates before) where
  -- what all rules do is seen as what the own rules do
  rules-of : (n : List ℕ) (rules : List Placed) (ran : Ran) → AreFine rules → T (is_sorted id_cmp ran.states)
      → ran_of n (fold (server_rule t before) ran rules) ≡ fold (own_rule n t (states_of n before)) (ran_of n ran) (filter (is_placed n) rules)
  rules-of n [] ran fine h = refl
  rules-of n (r ∷ rules) ran fine h =
      let next = sorted-results t ran r (last_of before (id_of r)) (given r ran.store t) h in
      let rest = rules-of n rules (server_rule t before ran r) fine.1 next in
      elim (pointwise nat_eq n r.namespace) as (λ b. pointwise nat_eq n r.namespace ≡ b → ran_of n (fold (server_rule t before) (server_rule t before ran r) rules)
      ≡ fold (own_rule n t (states_of n before)) (ran_of n ran) (cond b (r ∷ filter (is_placed n) rules) (filter (is_placed n) rules))) [
        | true ↦ λ own. rest ∙ ap (λ (x : Ran). fold (own_rule n t (states_of n before)) x (filter (is_placed n) rules))
            (subst (λ m. ran_of m (server_rule t before ran r) ≡ own_rule m t (states_of m before) (ran_of m ran) r) (sym ((bytes_decides n r.namespace).0 own))
            (own-rule r t before ran fine.0 states h))
        | false ↦ λ other. rest ∙ ap (λ (x : Ran). fold (own_rule n t (states_of n before)) x (filter (is_placed n) rules)) (other-rule n r t before ran other fine.0 states h)
      ] refl

  rules-sorted : (rules : List Placed) (ran : Ran) → T (is_sorted id_cmp ran.states) → T (is_sorted id_cmp (fold (server_rule t before) ran rules).states)
  rules-sorted [] ran h = h
  rules-sorted (r ∷ rules) ran h =
      rules-sorted rules (server_rule t before ran r) (sorted-results t ran r (last_of before (id_of r)) (given r ran.store t) h)

  rules-own : (rules : List Placed) (ran : Ran) → AreFine rules → OwnStates ran.states → OwnStates (fold (server_rule t before) ran rules).states
  rules-own [] ran fine h = h
  rules-own (r ∷ rules) ran fine h =
      let id = id_of r in
      rules-own rules (server_rule t before ran r) fine.1
      (own-after t ran r (last_of before id) (given r ran.store t) (own-find before id states) (given-own r ran.store t fine.0) h)

fold-map : {A B C : Type 0} (f : C → B → C) (g : A → B) (c : C) (xs : List A) → fold f c (map g xs) ≡ fold (λ d x. f d (g x)) c xs
fold-map f g c [] = refl
fold-map f g c (x ∷ xs) = fold-map f g (f c (g x)) xs

abbrev beginning_ran : Store → Ran
beginning_ran store = record { store = store; states = []; failed = [] }

-- the rules of all files
server-rules : (files : List RuleFile) (t : Moment) (before : States) (store : Store)
    → after_rules (map enforced_file files) [] [] t before store ≡ fold (server_rule t before) (beginning_ran store) (placed_of files)
server-rules files t before store =
    ap (fold (after_rule [] [] t before) (beginning_ran store)) (placed-enforced files)
    ∙ fold-map (after_rule [] [] t before) enforced_placed (beginning_ran store) (placed_of files)

-- the staleness markers of rules that are gone
gone-of : (n : List ℕ) (t : Moment) (before after : States) → OwnStates before
    → of_namespace n (gone_entries t (gone before after)) ≡ gone_entries t (gone (states_of n before) (states_of n after))
gone-of n t [] after h = refl
gone-of n t (s ∷ before) after h =
    let rest = gone-of n t before after h.1 in
    elim (of_home n s.0) as (λ b. of_home n s.0 ≡ b → of_namespace n (gone_entries t (cond (not (is_some (last_of after s.0))) (s ∷ gone before after) (gone before after)))
    ≡ gone_entries t (gone (cond b (s ∷ states_of n before) (states_of n before)) (states_of n after))) [
      | true ↦ λ own.
          let sets = subst (λ m. OwnSets m s.1) (sym ((bytes_decides n s.0.namespace).0 own)) h.0 in
          let seen = of-append n (stale_entries {X = ℤ} t s.1 []) (gone_entries t (gone before after))
          ∙ ap (λ l. l ++ of_namespace n (gone_entries t (gone before after))) (stale-seen n t s.1 [] sets)
          ∙ ap (λ l. stale_entries {X = ℤ} t s.1 [] ++ l) rest in
          elim (not (is_some (last_of after s.0))) as (λ k. of_namespace n (gone_entries t (cond k (s ∷ gone before after) (gone before after)))
          ≡ gone_entries t (cond k (s ∷ gone (states_of n before) (states_of n after)) (gone (states_of n before) (states_of n after)))) [
            | true ↦ seen
            | false ↦ rest
          ] ∙ ap (λ o. gone_entries t (cond (not (is_some o)) (s ∷ gone (states_of n before) (states_of n after)) (gone (states_of n before) (states_of n after)))) (sym (last-of n after s.0 own))
      | false ↦ λ other.
          elim (not (is_some (last_of after s.0))) as (λ k. of_namespace n (gone_entries t (cond k (s ∷ gone before after) (gone before after)))
          ≡ gone_entries t (gone (states_of n before) (states_of n after))) [
            | true ↦ of-append n (stale_entries {X = ℤ} t s.1 []) (gone_entries t (gone before after))
                ∙ ap (λ l. l ++ of_namespace n (gone_entries t (gone before after))) (stale-unseen n s.0.namespace t s.1 [] other h.0) ∙ rest
            | false ↦ rest
          ]
    ] refl

-- a round of all files with the enforced label is seen as the round of the own files as they are written
pub round-of : (n : List ℕ) (files : List RuleFile) (t : Moment) (before : States) (store : Store) → AllByRecursion IsFineFile files → OwnStates before
    → ran_of n (round_of (map enforced_file files) [] [] t before store)
    ≡ round_of (filter (is_of n) files) (home_label n) (home_label n) t (states_of n before) (of_namespace n store)
round-of n files t before store fine states =
    let server = fold (server_rule t before) (beginning_ran store) (placed_of files) in
    let seen : ran_of n (fold (server_rule t before) (beginning_ran store) (placed_of files))
    ≡ after_rules (filter (is_of n) files) (home_label n) (home_label n) t (states_of n before) (of_namespace n store) =
    rules-of t before states n (placed_of files) (beginning_ran store) (placed-fine files fine) tt
    ∙ ap (fold (own_rule n t (states_of n before)) (beginning_ran (of_namespace n store))) (placed-of_home n files) in
    ap (λ ran. ran_of n (without_gone t before ran)) (server-rules files t before store)
    ∙ (λ i. record {
      store = (with_all-of n server.store (gone_entries t (gone before server.states))
          ∙ ap (with_all (of_namespace n server.store)) (gone-of n t before server.states states)) i;
      states = states_of n server.states;
      failed = (ran_of n server).failed;
    })
    ∙ ap (without_gone t (states_of n before)) seen

-- what a round leaves is its namespace's
pub round-own : (files : List RuleFile) (t : Moment) (before : States) (store : Store) → AllByRecursion IsFineFile files → OwnStates before
    → OwnStates (round_of (map enforced_file files) [] [] t before store).states
round-own files t before store fine states =
    subst (λ (ran : Ran). OwnStates ran.states) (sym (server-rules files t before store))
    (rules-own t before states (placed_of files) (beginning_ran store) (placed-fine files fine) tt)

-- a round adds to the store
abbrev pub Adds : Store → Store → Type 0
Adds old new = (added : Store) × (new ≡ old ++ added)

pub adds-more : (a b c : Store) → Adds a b → Adds b c → Adds a c
adds-more a b c (x, p) (y, q) = (x ++ y, q ∙ ap (λ l. l ++ y) p ∙ append_assoc a x y)

results-add : (t : Moment) (ran : Ran) (placed : Placed) (last : Option (List Texts)) (results : Option Vector) → Adds ran.store (after_results t ran placed last results).store
results-add t ran placed last None = ([], sym (append-nil ran.store))
results-add t ran placed last (Some results) = (fresh ran.store (value_entries t results ++ stale_entries t (unwrap_or last []) results), refl)

rules-add : (ambient force : Texts) (t : Moment) (before : States) (ran : Ran) (rules : List Placed) → Adds ran.store (fold (after_rule ambient force t before) ran rules).store
rules-add ambient force t before ran [] = ([], sym (append-nil ran.store))
rules-add ambient force t before ran (p ∷ rules) =
    let next = after_rule ambient force t before ran p in
    adds-more ran.store next.store (fold (after_rule ambient force t before) next rules).store
    (results-add t ran p (last_of before (id_of p)) (results_of p.rule.name p.rule.labels force (value_of (around ambient ran.store t) p.rule.expr)))
    (rules-add ambient force t before next rules)

pub round-adds : (files : List RuleFile) (ambient force : Texts) (t : Moment) (before : States) (store : Store) → Adds store (round_of files ambient force t before store).store
round-adds files ambient force t before store =
    let ran = after_rules files ambient force t before store in
    adds-more store ran.store (without_gone t before ran).store
    (rules-add ambient force t before (beginning_ran store) (placed_of files)) (fresh ran.store (gone_entries t (gone before ran.states)), refl)
