-- The last reading of a run in a window, after one more.
use Rattle.std.proofs.Common.{◌≡◌, ℕ, ℤ, ◌<ℤ◌, Bool, true, false, List, [], ◌∷◌, cond, Option, Some, None, is_some, if◌then◌else◌, int_lt, nat_eq, fold, refl, ap, sym, subst, ◌∙◌, arith, ⊎_elim, Result, Ok, Err, OnOk, OnErr}
use mathlib.Core.Bool.{true≢false}
use Rattle.std.specs.declared.cmp.Ordering.TheVariants.{Less, Equal, Greater}
use Rattle.std.specs.Cmp.{first_so, second_so, int_ranked}
use Rattle.std.specs.FinMap.{int_cmp-IsAntisymmetric}
use Rattle.std.specs.FinMap.Entries.{by_order, find, put, below_all}
use Rattle.std.specs.Ordering.{is_lt, is_eq, int_cmp}
use Rattle.std.proofs.lemmas.Bool.{cases_Bool}
use Rattle.std.proofs.lemmas.Int.{ints}
use Rattle.std.proofs.lemmas.Option.{cond_some}
use Rattle.op_base.specs.declared.moment.Moment.{Moment}
use Rattle.srv_store.specs.declared.addition.Addition.{Addition}
use Rattle.srv_store.specs.Stores.{is_within}
use Rattle.srv_store.specs.Runs.{Reading, Run, IsRun, moment_cmp, has_moment, with_reading, over_reading, later, newest_in, with_added}
use Rattle.srv_store.proofs.PlaceLemmas.{both_so, is_less, none_of, below_further, find_under, sorted-with_new}
use Rattle.srv_store.proofs.KeptLemmas.{moments_total}

-- a reading stands in for none, and for an earlier one
abbrev pub newer : Option Reading → Reading → Option Reading
newer None reading = Some reading
newer (Some found) reading = if int_lt found.0.0 reading.0.0 then Some reading else Some found

not_above : (x y : ℤ) → int_cmp x y ≡ Less → int_lt y x ≡ false
not_above x y less =
    let below : x <ℤ y = int_ranked x y Less (sym less) in
    ⊎_elim (λ (above : int_lt y x ≡ true). absurd (omega (arith, ints))) (λ is. is) (cases_Bool (int_lt y x))

is_above : (x y : ℤ) → int_cmp x y ≡ Greater → int_lt y x ≡ true
is_above x y greater =
    let above : y <ℤ x = int_ranked x y Greater (sym greater) in
    ⊎_elim (λ is. is) (λ (isnt : int_lt y x ≡ false). absurd (omega (arith, ints))) (cases_Bool (int_lt y x))

pub same_moments : (this that : Moment) → moment_cmp this that ≡ Equal → this ≡ that
same_moments this that tie = λ i. record { 0 = int_cmp-IsAntisymmetric this.0 that.0 tie i }

not_itself : (x : ℤ) → int_lt x x ≡ false
not_itself x = ⊎_elim (λ (above : int_lt x x ≡ true). absurd (omega (arith, ints))) (λ is. is) (cases_Bool (int_lt x x))

module _ (from to : ℤ) where
  -- a reading by itself
  abbrev only : Reading → Option Reading
  only r = if is_within from to r.0 then Some r else None

  later_of : (found other : Option Reading) (q : Reading) (P : Reading → Type 0) → ((q : Reading) → found ≡ Some q → P q) → ((q : Reading) → other ≡ Some q → P q)
      → later found other ≡ Some q → P q
  later_of None other q P f g is = g q is
  later_of (Some found) other q P f g is = f q is

  -- what is found stands above what all stand above
  newest_above : (x : Moment) (run : Run) (q : Reading) → below_all moment_cmp x run ≡ true → newest_in from to run ≡ Some q → int_lt q.0.0 x.0 ≡ false
  newest_above x [] q below is = absurd (true≢false (sym (ap is_some is)))
  newest_above x (p ∷ run) q below is =
      later_of (newest_in from to run) (only p) q (λ q. int_lt q.0.0 x.0 ≡ false)
      (λ q found. newest_above x run q (second_so _ _ below) found)
      (λ q one. subst (λ (q : Reading). int_lt q.0.0 x.0 ≡ false) (cond_some (is_within from to p.0) p q one).1 (not_above x.0 p.0.0 (is_less _ (first_so _ _ below))))
      is

  -- the first of readings gives way to what is found behind it
  gives_way : (found : Option Reading) (x : Reading) (b : Bool) → ((q : Reading) → found ≡ Some q → int_lt q.0.0 x.0.0 ≡ false)
      → later found (if b then Some x else None) ≡ (if b then newer found x else found)
  gives_way None x b above = refl
  gives_way (Some q) x true above = sym (ap (λ c. if c then Some x else Some q) (above q refl))
  gives_way (Some q) x false above = refl

  -- a reading above another stands in for it
  overtakes : (found : Option Reading) (p x : Reading) → int_lt p.0.0 x.0.0 ≡ true → later (newer found x) (only p) ≡ newer (later found (only p)) x
  overtakes None p x above =
      elim (is_within from to p.0) as (λ b. Some x ≡ newer (if b then Some p else None) x) [
        | true ↦ sym (ap (λ c. if c then Some x else Some p) above)
        | false ↦ refl
      ]
  overtakes (Some q) p x above =
      elim (int_lt q.0.0 x.0.0) as (λ b. later (if b then Some x else Some q) (only p) ≡ (if b then Some x else Some q)) [ true ↦ refl | false ↦ refl ]

  newest-put : (run : Run) (at : Moment) (value : Option ℤ) → IsRun run → find moment_cmp at run ≡ None
      → newest_in from to (put moment_cmp at value run) ≡ (if is_within from to at then newer (newest_in from to run) (at, value) else newest_in from to run)
  newest-put [] at value sorted free = refl
  newest-put (p ∷ run) at value sorted free =
      elim (moment_cmp at p.0) as (λ r. moment_cmp at p.0 ≡ r → cond (is_eq r) (Some p.1) (find moment_cmp at run) ≡ None
      → newest_in from to (by_order r ((at, value) ∷ p ∷ run) ((p.0, value) ∷ run) (p ∷ put moment_cmp at value run))
      ≡ (if is_within from to at then newer (newest_in from to (p ∷ run)) (at, value) else newest_in from to (p ∷ run))) [
        | Less ↦ λ less _. gives_way (newest_in from to (p ∷ run)) (at, value) (is_within from to at)
            (λ q found. newest_above at (p ∷ run) q (both_so _ _ (ap is_lt less) (below_further moment_cmp moments_total at p.0 run less (first_so _ _ sorted))) found)
        | Equal ↦ λ _ there. absurd (true≢false (ap is_some there))
        | Greater ↦ λ greater missing.
            ap (λ o. later o (only p)) (newest-put run at value (second_so _ _ sorted) missing)
            ∙ elim (is_within from to at) as (λ b. later (if b then newer (newest_in from to run) (at, value) else newest_in from to run) (only p)
            ≡ (if b then newer (newest_in from to (p ∷ run)) (at, value) else newest_in from to (p ∷ run))) [
              | true ↦ overtakes (newest_in from to run) p (at, value) (is_above at.0 p.0.0 greater)
              | false ↦ refl
            ]
      ] refl free

  -- what is found is no older than a reading that is there
  stays : (found other : Option Reading) (x : Reading) → newer found x ≡ found → newer (later found other) x ≡ later found other
  stays None other x is = absurd (true≢false (ap is_some is))
  stays (Some q) other x is = is

  newest-held : (run : Run) (at : Moment) (value : Option ℤ) → IsRun run → has_moment run at ≡ true → is_within from to at ≡ true
      → newer (newest_in from to run) (at, value) ≡ newest_in from to run
  newest-held [] at value sorted held within = absurd (true≢false (sym held))
  newest-held (p ∷ run) at value sorted held within =
      elim (moment_cmp at p.0) as (λ r. moment_cmp at p.0 ≡ r → is_some (cond (is_eq r) (Some p.1) (find moment_cmp at run)) ≡ true
      → newer (newest_in from to (p ∷ run)) (at, value) ≡ newest_in from to (p ∷ run)) [
        | Less ↦ λ less there. absurd (true≢false (sym there ∙ ap is_some (find_under moment_cmp moments_total at run (below_further moment_cmp moments_total at p.0 run less (first_so _ _ sorted)))))
        | Equal ↦ λ tie _. at_first (newest_in from to run) (same_moments at p.0 tie) (λ q found. newest_above p.0 run q (first_so _ _ sorted) found)
        | Greater ↦ λ _ there. stays (newest_in from to run) (only p) (at, value) (newest-held run at value (second_so _ _ sorted) there within)
      ] refl held
    where
      at_first : (found : Option Reading) → at ≡ p.0 → ((q : Reading) → found ≡ Some q → int_lt q.0.0 p.0.0 ≡ false)
          → newer (later found (only p)) (at, value) ≡ later found (only p)
      at_first None same above =
          ap (λ b. newer (if b then Some p else None) (at, value)) (ap (is_within from to) (sym same) ∙ within)
          ∙ ap (λ (m : Moment). if int_lt p.0.0 m.0 then Some (at, value) else Some p) same
          ∙ ap (λ b. if b then Some (at, value) else Some p) (not_itself p.0.0)
          ∙ sym (ap (λ b. if b then Some p else None) (ap (is_within from to) (sym same) ∙ within))
      at_first (Some q) same above = ap (λ (m : Moment). if int_lt q.0.0 m.0 then Some (at, value) else Some q) same ∙ ap (λ b. if b then Some (at, value) else Some q) (above q refl)

  newest-with_reading : (run : Run) (at : Moment) (value : Option ℤ) → IsRun run
      → newest_in from to (with_reading run at value) ≡ (if is_within from to at then newer (newest_in from to run) (at, value) else newest_in from to run)
  newest-with_reading run at value sorted =
      elim (has_moment run at) as (λ b. has_moment run at ≡ b → newest_in from to (if b then run else over_reading run at value)
      ≡ (if is_within from to at then newer (newest_in from to run) (at, value) else newest_in from to run)) [
        | true ↦ λ held. elim (is_within from to at) as (λ b. is_within from to at ≡ b → newest_in from to run ≡ (if b then newer (newest_in from to run) (at, value) else newest_in from to run)) [
          | true ↦ λ within. sym (newest-held run at value sorted held within)
          | false ↦ λ _. refl
        ] refl
        | false ↦ λ free. newest-put run at value sorted (none_of _ free)
      ] refl

  -- what an addition makes of the last reading of the run of a number
  abbrev pub newer_added : ℕ → Option Reading → Addition → Option Reading
  newer_added n found x = if nat_eq x.number n then (if is_within from to x.at then newer found (x.at, x.value) else found) else found

  pub newest-fold : (n : ℕ) (run : Run) (log : List Addition) → IsRun run
      → newest_in from to (fold (with_added n) run log) ≡ fold (newer_added n) (newest_in from to run) log
  newest-fold n run [] sorted = refl
  newest-fold n run (x ∷ log) sorted =
      newest-fold n (with_added n run x) log (elim (nat_eq x.number n) as (λ b. IsRun (if b then with_reading run x.at x.value else run)) [
        | true ↦ sorted-with_new moment_cmp moments_total x.at x.value run sorted
        | false ↦ sorted
      ])
      ∙ ap (λ found. fold (newer_added n) found log) (elim (nat_eq x.number n) as (λ b. newest_in from to (if b then with_reading run x.at x.value else run)
      ≡ (if b then (if is_within from to x.at then newer (newest_in from to run) (x.at, x.value) else newest_in from to run) else newest_in from to run)) [
        | true ↦ newest-with_reading run x.at x.value sorted
        | false ↦ refl
      ])

-- a run stays in order, whether a reading is put in it or not
pub run_kept : {V E : Type 0} (r : Result V E) (run new : Run) (at : Moment) (value : Option ℤ) → OnOk r (new ≡ with_reading run at value) → OnErr r (new ≡ run) → IsRun run → IsRun new
run_kept (Ok v) run new at value is same sorted = subst IsRun (sym is) (sorted-with_new moment_cmp moments_total at value run sorted)
run_kept (Err e) run new at value is same sorted = subst IsRun (sym same) sorted
