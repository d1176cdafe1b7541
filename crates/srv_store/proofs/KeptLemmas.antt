-- The parts of a store: what a new label set and an addition leave, seen as the list of entries.
use Rattle.std.proofs.Common.{◌≡◌, ℕ, suc, ◌+◌, ◌<◌, ◌≤◌, ℤ, Bool, true, false, not, ◌&&◌, ◌||◌, List, [], ◌∷◌, ◌++◌, length, cond, get_or, set, fold, Option, Some, is_some, if◌then◌else◌, nat_eq, int_le, refl, ap, sym, subst, ap₂, ◌∙◌, arith, ⊎_elim, eqb-true, eq-eqb, zero, slice_get, position, Result, Ok, Err, OnOk, OnErr, IfOk}
use mathlib.Core.Bool.{true≢false}
use Rattle.std.specs.Cmp.{IsTotalOrder, on_total, int_cmp_total, signed_Decides, first_so, second_so}
use Rattle.std.proofs.lemmas.Int.{ints}
use Rattle.std.specs.FinMap.Entries.{find, is_sorted, find-put, find_tied}
use Rattle.std.specs.List.{AllByRecursion, IsDistinct, list_any}
use Rattle.std.specs.Ordering.{eq_by_cmp}
use Rattle.std.proofs.lemmas.Bool.{cases_order}
use Rattle.std.proofs.lemmas.Bool.Decides.{same_from_decides, Decides-eqb}
use Rattle.std.proofs.lemmas.List.{length-set, get_or-set_same, get_or-set_other, get_or_append_left, length_push, map_push, set-get_or}
use Rattle.std.proofs.lemmas.List.Sums.{fold_push}
use Rattle.std.proofs.lemmas.List.Folds.{list_any_at}
use Rattle.std.proofs.lemmas.List.Quantifiers.{position-Some}
use Rattle.std.proofs.lemmas.Option.{get_or_from_slice_get}
use Rattle.std.proofs.lemmas.Result.{IfOk-weaker, on_ok_weaker, on_err_weaker}
use Rattle.std.proofs.lemmas.Map.Keys.{apart_from_distinct}
use Rattle.indexmap.specs.IndexSet.{insert_key}
use Rattle.op_base.specs.Labels.{Texts}
use Rattle.op_base.specs.declared.moment.Moment.{Moment}
use Rattle.op_base.proofs.EntryLemmas.{texts_decide}
use Rattle.srv_store.specs.declared.addition.Addition.{Addition}
use Rattle.srv_store.specs.declared.entry.Entry.{Entry}
use Rattle.srv_store.specs.Stores.{Store, same_labels, same_moment, is_twin, has_twin, with_one}
use Rattle.srv_store.proofs.PlaceLemmas.{both_so, is_tied, sorted-with_new}
use Rattle.srv_store.specs.Runs.{Run, moment_cmp, has_moment, with_reading, over_reading, key_at, run_at, entry_of, entries_of, with_added, over_added, log_with, runs_with, IsKept, IsNumbered}

-- a number below one is below a larger one
all_below : (m n : ℕ) → m ≤ n → (log : List Addition) → AllByRecursion (λ x. x.number < m) log → AllByRecursion (λ x. x.number < n) log
all_below m n larger [] below = tt
all_below m n larger (x ∷ log) below = (omega (arith, below.0), all_below m n larger log below.1)

all_push : (n : ℕ) (log : List Addition) (x : Addition) → AllByRecursion (λ x. x.number < n) log → x.number < n → AllByRecursion (λ x. x.number < n) (log ++ x ∷ [])
all_push n [] x below last = (last, tt)
all_push n (y ∷ log) x below last = (below.0, all_push n log x below.1 last)

-- a label set that is put among others leaves the numbers of those
longer : (keys : List Texts) (labels : Texts) → length keys ≤ length (insert_key same_labels keys labels)
longer keys labels =
    elim (list_any (same_labels labels) keys) as (λ b. length keys ≤ length (if b then keys else keys ++ labels ∷ [])) [
      | true ↦ omega arith
      | false ↦ omega (arith, length_push keys labels)
    ]

same_key : (keys : List Texts) (labels : Texts) (n : ℕ) → n < length keys → key_at (insert_key same_labels keys labels) n ≡ key_at keys n
same_key keys labels n within =
    elim (list_any (same_labels labels) keys) as (λ b. key_at (if b then keys else keys ++ labels ∷ []) n ≡ key_at keys n) [
      | true ↦ refl
      | false ↦ get_or_append_left keys (labels ∷ []) [] n within
    ]

same_entries : (keys : List Texts) (labels : Texts) (log : List Addition) → AllByRecursion (λ x. x.number < length keys) log
    → entries_of (insert_key same_labels keys labels) log ≡ entries_of keys log
same_entries keys labels [] below = refl
same_entries keys labels (x ∷ log) below =
    λ i. record { labels = same_key keys labels x.number below.0 i; at = x.at; value = x.value } ∷ same_entries keys labels log below.1 i

-- the parts stay right with a new label set, and show the same entries
pub kept-numbered : {keys new_keys : List Texts} {runs new_runs : List Run} {log : List Addition} {labels : Texts} {number : ℕ}
    → IsKept keys runs log → IsNumbered keys runs new_keys new_runs labels number → IsKept new_keys new_runs log
kept-numbered {keys} {new_keys} {runs} {new_runs} {log} {labels} {number} k n = record {
  as_many = n.as_many k.as_many;
  below = subst (λ (keys : List Texts). AllByRecursion (λ x. x.number < length keys) log) (sym n.keys_are) (all_below (length keys) (length (insert_key same_labels keys labels)) (longer keys labels) log k.below);
  first = λ m. n.same_runs m ∙ k.first m;
  last = λ m. n.same_runs m ∙ k.last m;
}

pub seen-numbered : {keys new_keys : List Texts} {runs new_runs : List Run} {log : List Addition} {labels : Texts} {number : ℕ}
    → IsKept keys runs log → IsNumbered keys runs new_keys new_runs labels number → entries_of new_keys log ≡ entries_of keys log
seen-numbered {keys} {log = log} {labels = labels} k n = ap (λ keys. entries_of keys log) n.keys_are ∙ same_entries keys labels log k.below

-- numbers of equal label sets are equal
pub one_number : (keys : List Texts) (i j : ℕ) → IsDistinct same_labels keys → i < length keys → j < length keys → key_at keys i ≡ key_at keys j → i ≡ j
one_number keys i j distinct within_i within_j same =
    ⊎_elim (λ is. is) (⊎_elim
    (λ (less : i < j). absurd (true≢false (sym ((texts_decide (key_at keys i) (key_at keys j)).1 same) ∙ apart_from_distinct same_labels keys i j [] distinct less within_j)))
    (λ (less : j < i). absurd (true≢false (sym ((texts_decide (key_at keys j) (key_at keys i)).1 (sym same)) ∙ apart_from_distinct same_labels keys j i [] distinct less within_i))))
    (cases_order i j)

pub number_told : (keys : List Texts) (i j : ℕ) → IsDistinct same_labels keys → i < length keys → j < length keys → same_labels (key_at keys i) (key_at keys j) ≡ nat_eq j i
number_told keys i j distinct within_i within_j =
    same_from_decides _ _ (
      (λ is. sym (one_number keys i j distinct within_i within_j ((texts_decide (key_at keys i) (key_at keys j)).0 is))),
      (λ (is : j ≡ i). (texts_decide (key_at keys i) (key_at keys j)).1 (ap (key_at keys) (sym is))),
    )
    (Decides-eqb j i)

pub moments_total : IsTotalOrder moment_cmp
moments_total = on_total (λ (moment : Moment). moment.0) int_cmp_total

-- whole numbers of which neither is above the other are equal
no_apart : (x y : ℤ) → int_le x y ≡ true → int_le y x ≡ true → x ≡ y
no_apart x y below above = omega (arith, ints)

same_le : (x : ℤ) → (int_le x x && int_le x x) ≡ true
same_le x = both_so _ _ (le_itself x) (le_itself x)
  where
    le_itself : (x : ℤ) → int_le x x ≡ true
    le_itself x = grind (arith, ints)

-- moments that tie are the same
pub moment_tie : (this that : Moment) → same_moment this that ≡ eq_by_cmp moment_cmp this that
moment_tie this that = same_from_decides _ _
    ((λ both. no_apart this.0 that.0 (first_so _ _ both) (second_so _ _ both)), (λ is. ap₂ (λ (x y : ℤ). int_le x y && int_le y x) is refl ∙ same_le that.0))
    (signed_Decides this.0 that.0)

has-put : (run : Run) (t at : Moment) (value : Option ℤ) → has_moment (over_reading run t value) at ≡ (has_moment run at || eq_by_cmp moment_cmp at t)
has-put run t at value =
    ap is_some (find-put moment_cmp moments_total at t value run)
    ∙ elim (eq_by_cmp moment_cmp at t) as (λ b. is_some (cond b (Some value) (find moment_cmp at run)) ≡ (has_moment run at || b)) [
      | true ↦ (elim (has_moment run at) as (λ b. true ≡ (b || true)) [ true ↦ refl | false ↦ refl ])
      | false ↦ (elim (has_moment run at) as (λ b. b ≡ (b || false)) [ true ↦ refl | false ↦ refl ])
    ]

-- a reading that stays out is of a moment that is there
has-held : (run : Run) (t at : Moment) → has_moment run t ≡ true → has_moment run at ≡ (has_moment run at || eq_by_cmp moment_cmp at t)
has-held run t at held =
    elim (eq_by_cmp moment_cmp at t) as (λ b. eq_by_cmp moment_cmp at t ≡ b → has_moment run at ≡ (has_moment run at || b)) [
      | true ↦ λ tie. let there : has_moment run at ≡ true = ap is_some (sym (find_tied moment_cmp moments_total at t (is_tied _ tie) run)) ∙ held in there ∙ sym (ap (λ b. b || true) there)
      | false ↦ λ _. (elim (has_moment run at) as (λ b. b ≡ (b || false)) [ true ↦ refl | false ↦ refl ])
    ] refl

has-with_reading : (run : Run) (t at : Moment) (value : Option ℤ) → has_moment (with_reading run t value) at ≡ (has_moment run at || eq_by_cmp moment_cmp at t)
has-with_reading run t at value =
    elim (has_moment run t) as (λ b. has_moment run t ≡ b → has_moment (if b then run else over_reading run t value) at ≡ (has_moment run at || eq_by_cmp moment_cmp at t)) [
      | true ↦ λ held. has-held run t at held
      | false ↦ λ _. has-put run t at value
    ] refl

-- an addition of a number gives a twin exactly where the label set of the number is the entry's
twin_step : (keys : List Texts) (number : ℕ) (entry : Entry) (x : Addition) → IsDistinct same_labels keys → number < length keys → key_at keys number ≡ entry.labels
    → x.number < length keys → is_twin entry (entry_of keys x) ≡ (eq_by_cmp moment_cmp entry.at x.at && nat_eq x.number number)
twin_step keys number entry x distinct within at inside = λ i.
    moment_tie entry.at x.at i && (ap (λ labels. same_labels labels (key_at keys x.number)) (sym at) ∙ number_told keys number x.number distinct within inside) i

and_true : (a : Bool) → a ≡ (a && true)
and_true true = refl
and_true false = refl

or_none : (a b : Bool) → a ≡ (a || (b && false))
or_none true b = refl
or_none false true = refl
or_none false false = refl

or_assoc : (a b c : Bool) → ((a || b) || c) ≡ (a || (b || c))
or_assoc true b c = refl
or_assoc false b c = refl

-- a run has a moment exactly where the list of entries has a twin
has_told : (keys : List Texts) (number : ℕ) (entry : Entry) → IsDistinct same_labels keys → number < length keys → key_at keys number ≡ entry.labels
    → (run : Run) (log : List Addition) → AllByRecursion (λ x. x.number < length keys) log
    → has_moment (fold (with_added number) run log) entry.at ≡ (has_moment run entry.at || has_twin (entries_of keys log) entry)
has_told keys number entry distinct within at run [] below = (elim (has_moment run entry.at) as (λ b. b ≡ (b || false)) [ true ↦ refl | false ↦ refl ])
has_told keys number entry distinct within at run (x ∷ log) below =
    has_told keys number entry distinct within at (with_added number run x) log below.1
    ∙ ap (λ b. b || has_twin (entries_of keys log) entry) (step ∙ ap (λ b. has_moment run entry.at || b) (sym (twin_step keys number entry x distinct within at below.0)))
    ∙ or_assoc (has_moment run entry.at) (is_twin entry (entry_of keys x)) (has_twin (entries_of keys log) entry)
  where
    step : has_moment (with_added number run x) entry.at ≡ (has_moment run entry.at || (eq_by_cmp moment_cmp entry.at x.at && nat_eq x.number number))
    step = elim (nat_eq x.number number) as (λ b. has_moment (if b then with_reading run x.at x.value else run) entry.at ≡ (has_moment run entry.at || (eq_by_cmp moment_cmp entry.at x.at && b))) [
      | true ↦ has-with_reading run x.at entry.at x.value ∙ ap (λ b. has_moment run entry.at || b) (and_true (eq_by_cmp moment_cmp entry.at x.at))
      | false ↦ or_none (has_moment run entry.at) (eq_by_cmp moment_cmp entry.at x.at)
    ]

pub twin_told : {keys : List Texts} {runs : List Run} {log : List Addition} {number : ℕ} (entry : Entry) → IsKept keys runs log → IsDistinct same_labels keys
    → number < length keys → key_at keys number ≡ entry.labels → has_moment (run_at runs number) entry.at ≡ has_twin (entries_of keys log) entry
twin_told {keys} {runs} {log} {number} entry k distinct within at =
    ap (λ run. has_moment run entry.at) (k.first number) ∙ has_told keys number entry distinct within at [] log k.below

-- the list of additions shows the store with the entry
pub seen_added : {keys : List Texts} {runs : List Run} {log : List Addition} {number : ℕ} (entry : Entry) → IsKept keys runs log → IsDistinct same_labels keys
    → number < length keys → key_at keys number ≡ entry.labels
    → entries_of keys (log_with runs log (record { number = number; at = entry.at; value = entry.value })) ≡ with_one (entries_of keys log) entry
seen_added {keys} {runs} {log} {number} entry k distinct within at =
    let x : Addition = record { number = number; at = entry.at; value = entry.value } in
    ap (λ b. entries_of keys (if b then log else log ++ x ∷ [])) (twin_told entry k distinct within at)
    ∙ elim (has_twin (entries_of keys log) entry) as (λ b. entries_of keys (if b then log else log ++ x ∷ []) ≡ (if b then entries_of keys log else entries_of keys log ++ entry ∷ [])) [
      | true ↦ refl
      | false ↦ map_push (entry_of keys) log x ∙ ap (λ labels. entries_of keys log ++ record { labels = labels; at = entry.at; value = entry.value } ∷ []) at
    ]

-- a run is written in its place
run_set : (runs : List Run) (number n : ℕ) (run : Run) → number < length runs → run_at (set runs number run) n ≡ (if nat_eq number n then run else run_at runs n)
run_set runs number n run within =
    elim (nat_eq number n) as (λ b. nat_eq number n ≡ b → run_at (set runs number run) n ≡ (if b then run else run_at runs n)) [
      | true ↦ λ is. ap (run_at (set runs number run)) (sym (eqb-true number n is)) ∙ get_or-set_same runs number run [] within
      | false ↦ λ isnt. get_or-set_other runs number n run [] (λ same. true≢false (sym (eq-eqb number n (sym same)) ∙ isnt))
    ] refl

pub kept-added : {keys : List Texts} {runs : List Run} {log : List Addition} (x : Addition) → IsKept keys runs log → x.number < length keys → IsKept keys (runs_with runs x) (log_with runs log x)
kept-added {keys} {runs} {log} x k within = elim (has_moment (run_at runs x.number) x.at) as (λ b. has_moment (run_at runs x.number) x.at ≡ b
    → IsKept keys (set runs x.number (if b then run_at runs x.number else over_reading (run_at runs x.number) x.at x.value)) (if b then log else log ++ x ∷ [])) [
      | true ↦ λ _. subst (λ (runs : List Run). IsKept keys runs log) (sym (set-get_or runs x.number [])) k
      | false ↦ λ free. record {
        as_many = length-set runs x.number _ ∙ k.as_many;
        below = all_push (length keys) log x k.below within;
        first = λ n. run_set runs x.number n _ (omega (arith, k.as_many)) ∙ first_one n free ∙ sym (fold_push (with_added n) [] log x);
        last = λ n. run_set runs x.number n _ (omega (arith, k.as_many)) ∙ last_one n ∙ sym (fold_push (over_added n) [] log x);
      }
    ] refl
  where
    run_told : (run : Run) (n : ℕ) → run_at runs n ≡ run → x.number ≡ n → run_at runs x.number ≡ run
    run_told run n is same = ap (run_at runs) same ∙ is

    first_one : (n : ℕ) → has_moment (run_at runs x.number) x.at ≡ false
        → (if nat_eq x.number n then over_reading (run_at runs x.number) x.at x.value else run_at runs n) ≡ with_added n (fold (with_added n) [] log) x
    first_one n free = elim (nat_eq x.number n) as (λ b. nat_eq x.number n ≡ b
        → (if b then over_reading (run_at runs x.number) x.at x.value else run_at runs n) ≡ (if b then with_reading (fold (with_added n) [] log) x.at x.value else fold (with_added n) [] log)) [
          | true ↦ λ is. ap (λ b. if b then run_at runs x.number else over_reading (run_at runs x.number) x.at x.value) (sym free)
              ∙ ap (λ run. with_reading run x.at x.value) (run_told _ n (k.first n) (eqb-true x.number n is))
          | false ↦ λ _. k.first n
        ] refl

    last_one : (n : ℕ) → (if nat_eq x.number n then over_reading (run_at runs x.number) x.at x.value else run_at runs n) ≡ over_added n (fold (over_added n) [] log) x
    last_one n = elim (nat_eq x.number n) as (λ b. nat_eq x.number n ≡ b
        → (if b then over_reading (run_at runs x.number) x.at x.value else run_at runs n) ≡ (if b then over_reading (fold (over_added n) [] log) x.at x.value else fold (over_added n) [] log)) [
          | true ↦ λ is. ap (λ run. over_reading run x.at x.value) (run_told _ n (k.last n) (eqb-true x.number n is))
          | false ↦ λ _. k.last n
        ] refl

-- a run's moments rise
pub run_sorted : (number : ℕ) (run : Run) (log : List Addition) → is_sorted moment_cmp run ≡ true → is_sorted moment_cmp (fold (with_added number) run log) ≡ true
run_sorted number run [] sorted = sorted
run_sorted number run (x ∷ log) sorted = run_sorted number (with_added number run x) log
    (elim (nat_eq x.number number) as (λ b. is_sorted moment_cmp (if b then with_reading run x.at x.value else run) ≡ true) [
      | true ↦ sorted-with_new moment_cmp moments_total x.at x.value run sorted
      | false ↦ sorted
    ])

-- a run without readings shows nothing
run_push : (runs : List Run) (n : ℕ) → get_or (runs ++ [] ∷ []) n [] ≡ get_or runs n []
run_push [] zero = refl
run_push [] (suc n) = refl
run_push (r ∷ runs) zero = refl
run_push (r ∷ runs) (suc n) = run_push runs n

pub numbered_new : (keys new_keys : List Texts) (runs new_runs : List Run) (labels : Texts) (number : ℕ) → list_any (same_labels labels) keys ≡ false
    → new_keys ≡ insert_key same_labels keys labels → IsDistinct same_labels new_keys → number < length new_keys
    → (k : Texts) × (slice_get new_keys number ≡ Some k) × (same_labels labels k ≡ true) → new_runs ≡ runs ++ [] ∷ [] → IsNumbered keys runs new_keys new_runs labels number
numbered_new keys new_keys runs new_runs labels number absent is distinct within stored pushed =
    let grown : new_keys ≡ keys ++ labels ∷ [] = is ∙ ap (λ b. if b then keys else keys ++ labels ∷ []) absent in
    record {
      keys_are = is;
      distinct = distinct;
      within = within;
      at = get_or_from_slice_get new_keys number stored.0 [] stored.1 ∙ sym ((texts_decide labels stored.0).0 stored.2);
      as_many = λ same. ap length pushed ∙ length_push runs [] ∙ ap (λ n. n + 1) same ∙ sym (ap length grown ∙ length_push keys labels);
      same_runs = λ n. ap (λ (runs : List Run). get_or runs n []) pushed ∙ run_push runs n;
    }

pub numbered_known : (keys : List Texts) (runs : List Run) (labels : Texts) (number : ℕ) → IsDistinct same_labels keys → position (same_labels labels) keys ≡ Some number → IsNumbered keys runs keys runs labels number
numbered_known keys runs labels number distinct is =
    let at = position-Some (same_labels labels) keys number [] is in
    record {
      keys_are = sym (ap (λ b. if b then keys else keys ++ labels ∷ []) (list_any_at (same_labels labels) keys number [] at.0 at.1));
      distinct = distinct;
      within = at.0;
      at = sym ((texts_decide labels (key_at keys number)).0 at.1);
      as_many = λ same. same;
      same_runs = λ n. refl;
    }

-- what holds of a value that was answered
pub told_ok : {V E : Type 0} (r : Result V E) (v : V) (P : V → Type 0) → r ≡ Ok v → IfOk r P → P v
told_ok r v P is holds = subst (λ r. IfOk r P) is holds

-- ---- an entry is taken, or refused
pub kept_same : (keys new_keys : List Texts) (runs new_runs : List Run) (log : List Addition) → IsKept keys runs log → new_keys ≡ keys → new_runs ≡ runs → IsKept new_keys new_runs log
kept_same keys new_keys runs new_runs log k same_keys same_runs =
    subst (λ (p : List Texts × List Run). IsKept p.0 p.1 log) (λ i. (sym same_keys i, sym same_runs i)) k

pub taken_kept : {V E : Type 0} (r : Result V E) (keys : List Texts) (runs new_runs : List Run) (log new_log : List Addition) (x : Addition) → IsKept keys runs log → x.number < length keys
    → OnOk r (new_runs ≡ runs_with runs x) → OnOk r (new_log ≡ log_with runs log x) → OnErr r (new_runs ≡ runs) → OnErr r (new_log ≡ log) → IsKept keys new_runs new_log
taken_kept (Ok v) keys runs new_runs log new_log x k within runs_are log_is same_runs same_log =
    subst (λ (p : List Run × List Addition). IsKept keys p.0 p.1) (λ i. (sym runs_are i, sym log_is i)) (kept-added x k within)
taken_kept (Err e) keys runs new_runs log new_log x k within runs_are log_is same_runs same_log =
    subst (λ (p : List Run × List Addition). IsKept keys p.0 p.1) (λ i. (sym same_runs i, sym same_log i)) k

module _ {E : Type 0} (r : Result Bool E) {keys new_keys : List Texts} {runs new_runs : List Run} {log : List Addition} (store : Store) (entry : Entry) (number : ℕ)
    (k : IsKept keys runs log) (n : IsNumbered keys runs new_keys new_runs entry.labels number) (seen : entries_of keys log ≡ store) where
  -- what the list of entries shows between
  shown : entries_of new_keys log ≡ store
  shown = seen-numbered k n ∙ seen

  pub taken_added : IfOk r (λ added. added ≡ not (has_moment (run_at new_runs number) entry.at)) → IfOk r (λ added. added ≡ not (has_twin store entry))
  taken_added told = IfOk-weaker r (λ added. added ≡ not (has_moment (run_at new_runs number) entry.at)) (λ added. added ≡ not (has_twin store entry))
      (λ added is. is ∙ ap not (twin_told entry (kept-numbered k n) n.distinct n.within n.at ∙ ap (λ s. has_twin s entry) shown)) told

  pub taken_ok : (new_log : List Addition) → OnOk r (new_log ≡ log_with new_runs log (record { number = number; at = entry.at; value = entry.value })) → OnOk r (entries_of new_keys new_log ≡ with_one store entry)
  taken_ok new_log told = on_ok_weaker r (λ is. ap (entries_of new_keys) is ∙ seen_added entry (kept-numbered k n) n.distinct n.within n.at ∙ ap (λ s. with_one s entry) shown) told

  pub taken_err : (new_log : List Addition) → OnErr r (new_log ≡ log) → OnErr r (entries_of new_keys new_log ≡ store)
  taken_err new_log told = on_err_weaker r (λ is. ap (entries_of new_keys) is ∙ shown) told
