-- The clash that is told is the least one.
use Rattle.std.proofs.Common.{◌≡◌, Bool, ◌≢◌, zero, suc, true, false, cond, List, [], ◌∷◌, Option, Some, None, ◌⊎◌, inl, inr, refl, sym, ap, subst, ◌∙◌, arith, ◌||◌}
use mathlib.Core.Bool.{true≢false}
use Rattle.std.proofs.Math.Bool.{or-true}
use Rattle.std.specs.declared.cmp.Ordering.{Ordering}
use Rattle.std.specs.declared.cmp.Ordering.TheVariants.{Less, Equal, Greater}
use Rattle.std.specs.Cmp.{IsTotalOrder, Equal-is, on_total, then_total, tied_itself, upto}
use Rattle.std.specs.List.{AllByRecursion, Contains, list_any}
use Rattle.std.specs.Ordering.{is_eq, is_gt, is_le, ordering_reverse, ordering_then}
use Rattle.op_base.specs.Labels.{Texts, labels_cmp, labels_ties}
use Rattle.srv_store.specs.Stores.{same_labels}
use Rattle.srv_store.proofs.OrderLemmas.{labels_same, labels_total}
use Rattle.ql_call.specs.Clashes.{Pair, pair_cmp, pair_or, partner, first_clash, lesser}
use Rattle.ql_call.specs.LeastClash.{Clash, IsLeastOf}
use Rattle.ql_call.specs.declared.changed.Changed.{Changed}
use Rattle.srv_store.proofs.RisingLemmas.{Below, Rises}
use Rattle.ql_call.proofs.FoundLemmas.{same_labels-itself}

module _ {X : Type 0} where
  -- the first of a list is in it, and so are the others
  contains-here : (x : X) (xs : List X) → Contains (x ∷ xs) x
  contains-here x xs = (0, omega arith, refl)

  contains-later : (y x : X) (xs : List X) → Contains xs x → Contains (y ∷ xs) x
  contains-later y x xs there = (suc there.0, omega (arith, there.1), there.2)

  contains-cases : (y x : X) (xs : List X) → Contains (y ∷ xs) x → (y ≡ x) ⊎ Contains xs x
  contains-cases y x xs (zero, within, is) = inl is
  contains-cases y x xs (suc k, within, is) = inr (k, omega arith, is)

  contains-none : (x : X) → ¬ (Contains [] x)
  contains-none x there = absurd (omega (arith, there.1))

abbrev pub from_of : Changed → Texts
from_of c = c.from

-- an element is the first one or a later one
by-place : (P : Changed → Type 0) (c d : Changed) (changed : List Changed) → P c → (Contains changed d → P d) → Contains (c ∷ changed) d → P d
by-place P c d changed here later there = elim (contains-cases c d changed there) as (λ w. P d) [
  | inl is ↦ subst P is here
  | inr rest ↦ later rest
]

-- what holds of all that a list contains holds of each of it
pub all-contained : (P : Changed → Type 0) (changed : List Changed) → ((c : Changed) → Contains changed c → P c) → AllByRecursion P changed
all-contained P [] h = tt
all-contained P (c ∷ changed) h =
    (h c (contains-here c changed), all-contained P changed (λ d there. h d (contains-later c d changed there)))

-- a test that holds of an element holds of some
pub any-contained : (p : Changed → Bool) (changed : List Changed) (c : Changed) → Contains changed c → p c ≡ true → list_any p changed ≡ true
any-contained p [] c there holds = absurd (contains-none c there)
any-contained p (d ∷ changed) c there holds = elim (contains-cases d c changed there) as (λ w. (p d || list_any p changed) ≡ true) [
  | inl is ↦ ap (λ (e : Changed). p e || list_any p changed) is ∙ ap (λ b. b || list_any p changed) holds
  | inr later ↦ ap (λ b. p d || b) (any-contained p changed c later holds) ∙ or-true (p d)
]

-- what is below things is below each of them
below-each : (k : Texts) (changed : List Changed) (c : Changed) → Below labels_cmp from_of k changed → Contains changed c → labels_cmp k c.from ≡ Less
below-each k [] c h there = absurd (contains-none c there)
below-each k (d ∷ changed) c h there =
    by-place (λ (e : Changed). labels_cmp k e.from ≡ Less) d c changed h.0 (λ later. below-each k changed c h.1 later) there

-- what is less isn't equal
less-apart : (these those : Texts) → labels_cmp these those ≡ Less → these ≢ those
less-apart these those less is =
    absurd (true≢false (sym (ap is_eq (tied_itself labels_total these)) ∙ ap (λ l. is_eq (labels_cmp these l)) is ∙ ap is_eq less))

same-is : (these those : Texts) → same_labels these those ≡ true → these ≡ those
same-is these those same = labels_same these those ((Equal-is (labels_cmp these those)).0 (sym (labels_ties these those) ∙ same))

-- where labels before the step rise, an element is told by them
pub same-from : (changed : List Changed) (c d : Changed) → Rises labels_cmp from_of changed → Contains changed c → Contains changed d → c.from ≡ d.from → c ≡ d
same-from [] c d rising c_in d_in same = absurd (contains-none c c_in)
same-from (x ∷ changed) c d rising c_in d_in same = elim (contains-cases x c changed c_in) as (λ w. c ≡ d) [
  | inl c_is ↦ elim (contains-cases x d changed d_in) as (λ w. c ≡ d) [
    | inl d_is ↦ sym c_is ∙ d_is
    | inr d_later ↦ absurd (less-apart x.from d.from (below-each x.from changed d rising.0 d_later) (ap (λ (e : Changed). e.from) c_is ∙ same))
  ]
  | inr c_later ↦ elim (contains-cases x d changed d_in) as (λ w. c ≡ d) [
    | inl d_is ↦ absurd (less-apart x.from c.from (below-each x.from changed c rising.0 c_later) (ap (λ (e : Changed). e.from) d_is ∙ sym same))
    | inr d_later ↦ same-from changed c d rising.1 c_later d_later same
  ]
]

-- an element with these labels after the step, from these before
record IsPartner (labels : Texts) (changed : List Changed) (other : Texts) : Type 0 where
  found : Changed
  there : Contains changed found
  alike : labels ≡ found.to
  from : found.from ≡ other

partner-found : (labels : Texts) (changed : List Changed) (other : Texts) → partner labels changed ≡ Some other → IsPartner labels changed other
partner-found labels [] other is = cc
partner-found labels (c ∷ changed) other is =
    elim (same_labels labels c.to) as (λ b. same_labels labels c.to ≡ b → cond b (Some c.from) (partner labels changed) ≡ Some other → IsPartner labels (c ∷ changed) other) [
      | true ↦ λ same is. record { found = c; there = contains-here c changed; alike = same-is labels c.to same; from = cc }
      | false ↦ λ _ is.
          let later = partner-found labels changed other is in
          record { found = later.found; there = contains-later c later.found changed later.there; alike = later.alike; from = later.from }
    ] refl is

-- it is the first of those that have them
partner-least : (labels : Texts) (changed : List Changed) (other : Texts) (d : Changed) → Rises labels_cmp from_of changed → partner labels changed ≡ Some other
    → Contains changed d → labels ≡ d.to → is_le (labels_cmp other d.from) ≡ true
partner-least labels [] other d rising is there alike = absurd (contains-none d there)
partner-least labels (c ∷ changed) other d rising is there alike =
    elim (same_labels labels c.to) as (λ b. same_labels labels c.to ≡ b → cond b (Some c.from) (partner labels changed) ≡ Some other → is_le (labels_cmp other d.from) ≡ true) [
      | true ↦ λ same is.
          let from : c.from ≡ other = cc in
          subst (λ l. is_le (labels_cmp l d.from) ≡ true) from
          (by-place (λ (e : Changed). is_le (labels_cmp c.from e.from) ≡ true) c d changed
          (ap is_le (tied_itself labels_total c.from)) (λ later. ap is_le (below-each c.from changed d rising.0 later)) there)
      | false ↦ λ differs is.
          by-place (λ (e : Changed). labels ≡ e.to → is_le (labels_cmp other e.from) ≡ true) c d changed
          (λ same. absurd (apart same differs)) (λ later alike. partner-least labels changed other d rising.1 is later alike) there alike
    ] refl is
  where
    apart : labels ≡ c.to → ¬ (same_labels labels c.to ≡ false)
    apart is differs = absurd (true≢false (sym (same_labels-itself labels) ∙ ap (same_labels labels) is ∙ differs))

-- where there is none, no element has these labels after the step
partner-none : (labels : Texts) (changed : List Changed) (d : Changed) → partner labels changed ≡ None → Contains changed d → labels ≢ d.to
partner-none labels [] d none there = absurd (contains-none d there)
partner-none labels (c ∷ changed) d none there =
    elim (same_labels labels c.to) as (λ b. same_labels labels c.to ≡ b → cond b (Some c.from) (partner labels changed) ≡ None → labels ≢ d.to) [
      | true ↦ λ _ is. cc
      | false ↦ λ differs is.
          by-place (λ (e : Changed). labels ≢ e.to) c d changed
          (λ same. absurd (true≢false (sym (same_labels-itself labels) ∙ ap (same_labels labels) same ∙ differs))) (λ later. partner-none labels changed d is later) there
    ] refl none

-- the least of a relation is that of one that holds of the same pairs
pub least-of : (P Q : Pair → Type 0) (found : Option Pair) → ((pair : Pair) → P pair → Q pair) → ((pair : Pair) → Q pair → P pair) → IsLeastOf P found → IsLeastOf Q found
least-of P Q None there back none = λ pair clash. none pair (back pair clash)
least-of P Q (Some pair) there back least = (there pair least.0, least.1, λ other clash. least.2 other (back other clash))

module _ (c : Changed) (changed : List Changed) (rising : Rises labels_cmp from_of (c ∷ changed)) where
  -- of two elements that clash one is later than the first
  one-first : (d : Changed) → Contains (c ∷ changed) d → c.from ≢ d.from → Contains changed d
  one-first d there apart = elim (contains-cases c d changed there) as (λ w. Contains changed d) [
    | inl is ↦ absurd (apart (ap (λ (e : Changed). e.from) is))
    | inr later ↦ later
  ]

  -- a clash of the later elements is one of all
  further : (pair : Pair) → Clash changed pair → Clash (c ∷ changed) pair
  further pair clash = record {
    first = clash.first;
    second = clash.second;
    first_in = contains-later c clash.first changed clash.first_in;
    second_in = contains-later c clash.second changed clash.second_in;
    apart = clash.apart;
    alike = clash.alike;
    told = clash.told;
  }

  -- where the first element has no partner, a clash is one of the later elements
  no-first : partner c.to changed ≡ None → (pair : Pair) → Clash (c ∷ changed) pair → Clash changed pair
  no-first none pair clash =
      elim (contains-cases c clash.first changed clash.first_in) as (λ w. Clash changed pair) [
        | inl is ↦
            let later = one-first clash.second clash.second_in (subst (λ (e : Changed). e.from ≢ clash.second.from) (sym is) clash.apart) in
            absurd (partner-none c.to changed clash.second none later (ap (λ (e : Changed). e.to) is ∙ clash.alike))
        | inr first ↦ elim (contains-cases c clash.second changed clash.second_in) as (λ w. Clash changed pair) [
          | inl is ↦ absurd (partner-none c.to changed clash.first none first (ap (λ (e : Changed). e.to) is ∙ sym clash.alike))
          | inr second ↦ record {
            first = clash.first;
            second = clash.second;
            first_in = first;
            second_in = second;
            apart = clash.apart;
            alike = clash.alike;
            told = clash.told;
          }
        ]
      ]

  -- else it clashes with the partner, and that is the least clash
  with-first : (other : Texts) → partner c.to changed ≡ Some other → IsLeastOf (Clash (c ∷ changed)) (Some (c.from, other))
  with-first other is =
      let found = partner-found c.to changed other is in
      let less : labels_cmp c.from other ≡ Less = subst (λ l. labels_cmp c.from l ≡ Less) found.from (below-each c.from changed found.found rising.0 found.there) in (
        record {
          first = c;
          second = found.found;
          first_in = contains-here c changed;
          second_in = contains-later c found.found changed found.there;
          apart = λ same. less-apart c.from other less (same ∙ found.from);
          alike = found.alike;
          told = ap (λ l. (c.from, l)) (sym found.from);
        },
        less,
        λ pair clash. subst (λ (pair : Pair). is_le (pair_cmp (c.from, other) pair) ≡ true) (sym clash.told) (least clash),
      )
    where
      least : {pair : Pair} (clash : Clash (c ∷ changed) pair) → is_le (pair_cmp (c.from, other) (clash.first.from, clash.second.from)) ≡ true
      least clash = elim (contains-cases c clash.first changed clash.first_in) as (λ w. is_le (pair_cmp (c.from, other) (clash.first.from, clash.second.from)) ≡ true) [
        | inl same ↦
            let second = one-first clash.second clash.second_in (subst (λ (e : Changed). e.from ≢ clash.second.from) (sym same) clash.apart) in
            ap (λ r. is_le (ordering_then r (labels_cmp other clash.second.from)))
            (ap (λ (e : Changed). labels_cmp c.from e.from) (sym same) ∙ tied_itself labels_total c.from)
            ∙ partner-least c.to changed other clash.second rising.1 is second (ap (λ (e : Changed). e.to) same ∙ clash.alike)
        | inr first ↦ ap (λ r. is_le (ordering_then r (labels_cmp other clash.second.from))) (below-each c.from changed clash.first rising.0 first)
      ]

-- the first clash is the least
pub first-least : (changed : List Changed) → Rises labels_cmp from_of changed → IsLeastOf (Clash changed) (first_clash changed)
first-least [] rising = λ pair clash. contains-none clash.first clash.first_in
first-least (c ∷ changed) rising =
    elim (partner c.to changed) as (λ o. partner c.to changed ≡ o → IsLeastOf (Clash (c ∷ changed)) (pair_or c.from o (first_clash changed))) [
      | Some other ↦ λ is. with-first c changed rising other is
      | None ↦ λ is. least-of (Clash changed) (Clash (c ∷ changed)) (first_clash changed)
          (further c changed rising) (no-first c changed rising is) (first-least changed rising.1)
    ] refl

-- pairs are ordered totally
pair-total : IsTotalOrder pair_cmp
pair-total = then_total (on_total (λ (pair : Pair). pair.0) labels_total) (on_total (λ (pair : Pair). pair.1) labels_total)

not-above : (r : Ordering) → is_le r ≡ true → is_gt r ≡ false
not-above Less h = refl
not-above Equal h = refl
not-above Greater h = absurd (true≢false (sym h))

at-most : (r : Ordering) → is_gt r ≡ false → is_le r ≡ true
at-most Less h = refl
at-most Equal h = refl
at-most Greater h = absurd (true≢false h)

turned : (r : Ordering) → is_le (ordering_reverse r) ≡ false → is_le r ≡ true
turned Less h = refl
turned Equal h = refl
turned Greater h = absurd (true≢false h)

chain : (a b c : Pair) → is_le (pair_cmp a b) ≡ true → is_le (pair_cmp b c) ≡ true → is_le (pair_cmp a c) ≡ true
chain a b c ab bc = at-most _ (upto pair-total a b c (not-above _ ab) (not-above _ bc))

-- the lesser of two least clashes is the least of both kinds
pub lesser-least : (P Q : Pair → Type 0) (a b : Option Pair) → IsLeastOf P a → IsLeastOf Q b → IsLeastOf (λ pair. P pair ⊎ Q pair) (lesser a b)
lesser-least P Q None None ps qs = λ pair clash. elim clash as (λ w. ⊥) [ inl p ↦ ps pair p | inr q ↦ qs pair q ]
lesser-least P Q None (Some b) ps qs =
    (inr qs.0, qs.1, λ other clash. elim clash as (λ w. is_le (pair_cmp b other) ≡ true) [ inl p ↦ absurd (ps other p) | inr q ↦ qs.2 other q ])
lesser-least P Q (Some a) None ps qs =
    (inl ps.0, ps.1, λ other clash. elim clash as (λ w. is_le (pair_cmp a other) ≡ true) [ inl p ↦ ps.2 other p | inr q ↦ absurd (qs other q) ])
lesser-least P Q (Some a) (Some b) ps qs =
    elim (is_le (pair_cmp a b)) as (λ t. is_le (pair_cmp a b) ≡ t → IsLeastOf (λ pair. P pair ⊎ Q pair) (cond t (Some a) (Some b))) [
      | true ↦ λ is. (
        inl ps.0,
        ps.1,
        λ other clash. elim clash as (λ w. is_le (pair_cmp a other) ≡ true) [
          | inl p ↦ ps.2 other p
          | inr q ↦ chain a b other is (qs.2 other q)
        ],
      )
      | false ↦ λ is. (
        inr qs.0,
        qs.1,
        λ other clash. elim clash as (λ w. is_le (pair_cmp b other) ≡ true) [
          | inl p ↦ chain b a other (turned _ (ap is_le (sym (pair-total.antisymm a b)) ∙ is)) (ps.2 other p)
          | inr q ↦ qs.2 other q
        ],
      )
    ] refl
