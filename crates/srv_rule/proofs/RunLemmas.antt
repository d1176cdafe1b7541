-- Rules run one after the other: the store grows by each, and what is left decides.
use Rattle.std.proofs.Common.{◌≡◌, ℕ, ◌+◌, ◌<◌, List, [], ◌∷◌, ◌++◌, length, drop, get_or, Option, Some, None, Result, Ok, Err, OnErr, refl, ap, sym, subst, ◌∙◌, append_assoc}
use Rattle.std.specs.List.{flat_map}
use Rattle.std.proofs.lemmas.List.{drop_more}
use Rattle.op_base.specs.declared.moment.Moment.{Moment}
use Rattle.op_base.specs.Labels.{Texts}
use Rattle.cfg_types.specs.declared.config.RuleFile.{RuleFile}
use Rattle.cfg_types.specs.declared.config.Group.{Group}
use Rattle.cfg_types.specs.declared.config.Rule.{Rule}
use Rattle.srv_store.specs.declared.entry.Entry.{Entry}
use Rattle.srv_store.specs.Stores.{Store, Vector, Grows, AddsPrefix, fresh, with_all}
use Rattle.srv_store.proofs.GrowthLemmas.{grows-itself, grows-further, grows-with_all}
use Rattle.ql_eval.specs.Values.{value_of}
use Rattle.srv_rule.specs.Recorded.{results_of}
use Rattle.srv_rule.specs.declared.view.FailedRule.{FailedRule}
use Rattle.srv_rule.specs.Rounds.{States, Placed, Ran, around, ran_of, stored, id_of, last_of, placed_at, placed_from, placed_in, placed_of, after_results, after_rule, after_each, gone, gone_entries, round_of}

abbrev after_one : Moment → States → Ran → Placed → Ran
after_one = after_rule [] []

abbrev after_all : Moment → States → Ran → List Placed → Ran
after_all = after_each [] []

grows-results : (t : Moment) (ran : Ran) (placed : Placed) (last : Option (List Texts)) (results : Option Vector) → Grows ran.store (stored (after_results t ran placed last results))
grows-results t ran placed last results =
    elim results as (λ r. Grows ran.store (stored (after_results t ran placed last r))) [
      | None ↦ grows-itself ran.store
      | Some found ↦ grows-with_all ran.store _
    ]

pub grows-rule : (t : Moment) (before : States) (ran : Ran) (placed : Placed) → Grows ran.store (stored (after_one t before ran placed))
grows-rule t before ran placed =
    grows-results t ran placed (last_of before (id_of placed)) (results_of placed.rule.name placed.rule.labels [] (value_of (around [] ran.store t) placed.rule.expr))

-- a rule that stored nothing yet has stored a first part
pub nothing_stored : (t : Moment) (before : States) (ran : Ran) (placed : Placed) → AddsPrefix ran.store ran.store (stored (after_one t before ran placed))
nothing_stored t before ran placed = (grows-itself ran.store, grows-rule t before ran placed)

grows-all : (t : Moment) (before : States) (ran : Ran) (placed : List Placed) → Grows ran.store (stored (after_all t before ran placed))
grows-all t before ran [] = grows-itself ran.store
grows-all t before ran (p ∷ placed) =
    grows-further ran.store (stored (after_one t before ran p)) _ (grows-rule t before ran p) (grows-all t before (after_one t before ran p) placed)

after_all-append : (t : Moment) (before : States) (ran : Ran) (some rest : List Placed) → after_all t before ran (some ++ rest) ≡ after_all t before (after_all t before ran some) rest
after_all-append t before ran [] rest = refl
after_all-append t before ran (p ∷ some) rest = after_all-append t before (after_one t before ran p) some rest

-- from a start some of all rules ran, and others are left
pub record Runs (t : Moment) (before : States) (start ran : Ran) (all left : List Placed) : Type 0 where
  pub same : after_all t before start all ≡ after_all t before ran left
  pub grown : Grows start.store ran.store

module _ (t : Moment) (before : States) where
  pub runs-start : (start : Ran) (all : List Placed) → Runs t before start start all all
  runs-start start all = record { same = refl; grown = grows-itself start.store }

  -- the next ones ran
  pub runs-step : (start ran now : Ran) (all left some rest : List Placed) → Runs t before start ran all left → left ≡ some ++ rest → now ≡ after_all t before ran some
      → Runs t before start now all rest
  runs-step start ran now all left some rest runs parts is = record {
    same = runs.same ∙ ap (after_all t before ran) parts ∙ after_all-append t before ran some rest ∙ ap (λ r. after_all t before r rest) (sym is);
    grown = grows-further start.store ran.store now.store runs.grown (subst (λ (r : Ran). Grows ran.store r.store) (sym is) (grows-all t before ran some));
  }

  -- they were cut off
  pub runs-cut : (start ran : Ran) (all left some rest : List Placed) (new : Store) → Runs t before start ran all left → left ≡ some ++ rest
      → AddsPrefix ran.store new (stored (after_all t before ran some)) → AddsPrefix start.store new (stored (after_all t before start all))
  runs-cut start ran all left some rest new runs parts cut = (
    grows-further start.store ran.store new runs.grown cut.0,
    subst (λ (r : Ran). Grows new r.store) (sym (runs.same ∙ ap (after_all t before ran) parts ∙ after_all-append t before ran some rest))
        (grows-further new (stored (after_all t before ran some)) _ cut.1 (grows-all t before (after_all t before ran some) rest)),
  )

  -- none is left
  pub runs-end : (start ran : Ran) (all left : List Placed) → Runs t before start ran all left → left ≡ [] → ran ≡ after_all t before start all
  runs-end start ran all left runs none = sym (runs.same ∙ ap (after_all t before ran) none)

-- all of some entries is a first part of them
pub all_stored : (store new : Store) (entries : List Entry) → new ≡ with_all store entries → AddsPrefix store new (with_all store entries)
all_stored store new entries is = subst (λ s. AddsPrefix store s (with_all store entries)) (sym is) (grows-with_all store entries, grows-itself (with_all store entries))

-- what is added stands behind what was added before
pub behind_more : (base store new : Store) (before more after entries : List Entry) → store ≡ base ++ before → new ≡ with_all store entries → more ≡ fresh store entries → after ≡ before ++ more
    → new ≡ base ++ after
behind_more base store new before more after entries behind is added grown =
    is ∙ ap (λ l. l ++ fresh store entries) behind ∙ append_assoc base before (fresh store entries)
    ∙ ap (λ l. base ++ (before ++ l)) (sym added) ∙ ap (λ l. base ++ l) (sym grown)

pub on_err_anyway : {V E P : Type 0} (r : Result V E) → P → OnErr r P
on_err_anyway (Ok v) p = tt
on_err_anyway (Err e) p = p

-- what is left of a list begins with the item at hand, of which a slice of the same items tells
left-item : {X Y : Type 0} (F : List X → Y) (items slice : List X) (at : ℕ) (item : X) → slice ≡ items → at < length slice → item ≡ get_or slice at item
    → F (drop at items) ≡ F (item ∷ drop (at + 1) items)
left-item F items slice at item same within is =
    subst (λ s. F (drop at s) ≡ F (item ∷ drop (at + 1) s)) same (ap F (drop_more slice at item within ∙ ap (λ x. x ∷ drop (at + 1) slice) (sym is)))

abbrev pub placed_under : RuleFile → List Group → List Placed
placed_under file groups = flat_map (λ (group : Group). placed_from file group.name 0 group.rules) groups

pub rules-left : (file : RuleFile) (group : List ℕ) (rules slice : List Rule) (index at : ℕ) (rule : Rule) → index ≡ at → slice ≡ rules → at < length slice
    → rule ≡ get_or slice at rule → placed_from file group at (drop at rules) ≡ (placed_at file group index rule ∷ []) ++ placed_from file group (at + 1) (drop (at + 1) rules)
rules-left file group rules slice index at rule counted same within is =
    left-item (placed_from file group at) rules slice at rule same within is
    ∙ ap (λ n. placed_at file group n rule ∷ placed_from file group (at + 1) (drop (at + 1) rules)) (sym counted)

pub groups-left : (file : RuleFile) (groups slice : List Group) (at : ℕ) (group : Group) → slice ≡ groups → at < length slice → group ≡ get_or slice at group
    → placed_under file (drop at groups) ≡ placed_from file group.name 0 group.rules ++ placed_under file (drop (at + 1) groups)
groups-left file groups slice at group same within is = left-item (placed_under file) groups slice at group same within is

pub files-left : (files slice : List RuleFile) (at : ℕ) (file : RuleFile) → slice ≡ files → at < length slice → file ≡ get_or slice at file
    → placed_of (drop at files) ≡ placed_in file ++ placed_of (drop (at + 1) files)
files-left files slice at file same within is = left-item placed_of files slice at file same within is

-- a round that was cut off stored a first part
module _ (files : List RuleFile) (t : Moment) (before states : States) (store : Store) (failed : List FailedRule) (none : states ≡ []) (no_failures : failed ≡ []) where
  abbrev all_ran : Ran
  all_ran = after_all t before (ran_of store states failed) (placed_of files)

  abbrev the_round : Ran
  the_round = round_of files [] [] t before store

  ended : stored the_round ≡ with_all all_ran.store (gone_entries t (gone before all_ran.states))
  ended = sym (ap (λ (start : Ran). let ran = after_all t before start (placed_of files) in with_all ran.store (gone_entries t (gone before ran.states)))
      ((λ i. ran_of store (none i) (no_failures i))))

  grows-round : Grows all_ran.store (stored the_round)
  grows-round = subst (Grows all_ran.store) (sym ended) (grows-with_all all_ran.store (gone_entries t (gone before all_ran.states)))

  pub cut_in_rules : (new : Store) → AddsPrefix store new (stored all_ran) → AddsPrefix store new (stored the_round)
  cut_in_rules new cut = (cut.0, grows-further new (stored all_ran) (stored the_round) cut.1 grows-round)

  pub cut_after_rules : (ran : Ran) → ran ≡ all_ran → AddsPrefix store ran.store (stored the_round)
  cut_after_rules ran is =
      subst (λ (r : Ran). AddsPrefix store r.store (stored the_round)) (sym is)
      (grows-all t before (ran_of store states failed) (placed_of files), grows-round)

  pub cut_at_end : (ran : Ran) (new : Store) (entries : List Entry) → ran ≡ all_ran → entries ≡ gone_entries t (gone before ran.states)
      → AddsPrefix ran.store new (with_all ran.store entries) → AddsPrefix store new (stored the_round)
  cut_at_end ran new entries is added cut = (
    grows-further store ran.store new (cut_after_rules ran is).0 cut.0,
    subst (Grows new)
        (ap (with_all ran.store) added ∙ ap (λ (r : Ran). with_all r.store (gone_entries t (gone before r.states))) is ∙ sym ended)
        cut.1,
  )

  -- all of it was stored
  pub all_of_round : (ran : Ran) (new : Store) (entries : List Entry) → ran ≡ all_ran → entries ≡ gone_entries t (gone before ran.states) → new ≡ with_all ran.store entries
      → AddsPrefix store new (stored the_round)
  all_of_round ran new entries is added whole = cut_at_end ran new entries is added (all_stored ran.store new entries whole)

-- a round's store has that of before in front
pub round_grows : (files : List RuleFile) (t : Moment) (before : States) (store : Store) → Grows store (stored (round_of files [] [] t before store))
round_grows files t before store =
    let cut = cut_after_rules files t before [] store [] refl refl (after_all t before (ran_of store [] []) (placed_of files)) refl in
    grows-further store (after_all t before (ran_of store [] []) (placed_of files)).store (stored (round_of files [] [] t before store)) cut.0 cut.1
