-- `topk` and `bottomk` keep the elements of a group before which fewer than k go.
use Rattle.std.proofs.Common.{◌≡◌, ℕ, ◌+◌, ℤ, neg_ℤ, Bool, true, false, cond, ◌&&◌, List, [], ◌∷◌, Some, None, is_some, map, take, ltb, refl, sym, ap, subst, ◌∙◌, arith}
use Rattle.std.specs.Prelude.{int_lt}
use Rattle.std.specs.declared.cmp.Ordering.{Ordering}
use Rattle.std.specs.declared.cmp.Ordering.TheVariants.{Less, Equal, Greater}
use Rattle.std.specs.Cmp.{IsTotalOrder, Equal-is, int_cmp_total, on_total, then_total, tied_itself}
use Rattle.std.specs.FinMap.{int_cmp-IsAntisymmetric}
use Rattle.std.specs.FinMap.Entries.{find, find-put, put}
use Rattle.std.specs.List.{AllByRecursion, count_by, take-map}
use Rattle.std.specs.Ordering.{eq_by_cmp, int_cmp, is_eq, is_lt, ordering_reverse, ordering_then}
use Rattle.std.proofs.Math.Bool.{and-false}
use Rattle.std.proofs.lemmas.Int.{ints}
use Rattle.std.proofs.lemmas.List.Sums.{sum_by-cons}
use Rattle.op_base.specs.Labels.{Texts, labels_cmp}
use Rattle.op_base.specs.Maps.{in_order, put_all}
use Rattle.srv_store.proofs.OrderLemmas.{first_equal, second_equal, labels_same, labels_total}
use Rattle.srv_store.proofs.RisingLemmas.{Below, Rises, all-put, rises-entries, sorted-put_all}
use Rattle.ql_call.specs.Best.{goes_before, value_cmp}
use Rattle.ql_call.specs.Elements.{Element}
use Rattle.ql_call.specs.Ranked.{Rank, count_of, first_ranked, rank_cmp, rank_of, ranked, ranked_element, weight}
use Rattle.ql_call.proofs.FoundLemmas.{all-so, all-take, before, count-put, found-put_all, has, has-take, some-either}

-- ranks are ordered totally, and those that tie are equal
rank_total : IsTotalOrder rank_cmp
rank_total = then_total (on_total (λ (rank : Rank). rank.0) int_cmp_total) (on_total (λ (rank : Rank). rank.1) labels_total)

rank_same : (x y : Rank) → rank_cmp x y ≡ Equal → x ≡ y
rank_same x y tied = λ i. (
  int_cmp-IsAntisymmetric x.0 y.0 (first_equal (int_cmp x.0 y.0) (labels_cmp x.1 y.1) tied) i,
  labels_same x.1 y.1 (second_equal (int_cmp x.0 y.0) (labels_cmp x.1 y.1) tied) i,
)

tied_then : (r s : Ordering) → is_eq (ordering_then r s) ≡ (is_eq r && is_eq s)
tied_then Less s = refl
tied_then Equal s = refl
tied_then Greater s = refl

-- two numbers that are negated stand the other way round
int_lt-neg_ℤ : (a b : ℤ) → int_lt (neg_ℤ a) (neg_ℤ b) ≡ int_lt b a
int_lt-neg_ℤ a b = grind (arith, ints)

int_cmp-neg_ℤ : (a b : ℤ) → int_cmp (neg_ℤ a) (neg_ℤ b) ≡ int_cmp b a
int_cmp-neg_ℤ a b = λ i. cond (int_lt-neg_ℤ a b i) Less (cond (int_lt-neg_ℤ b a i) Greater Equal)

-- weights stand in the order that is asked of values
weight_cmp : (top : Bool) (a b : ℤ) → int_cmp (weight top a) (weight top b) ≡ value_cmp top a b
weight_cmp true a b = int_cmp-neg_ℤ a b
weight_cmp false a b = refl

module _ (top : Bool) (elements : List Element) where
  -- what stands among the elements
  abbrev pub IsOf : Element → Type 0
  IsOf e = find labels_cmp e.0 elements ≡ Some e.1

  module _ (P : Element → Type 0) where
    -- an entry by rank is one of such an element
    abbrev IsRanked : Rank × ℤ → Type 0
    IsRanked entry = P (entry.0.1, entry.1) × (entry.0.0 ≡ weight top entry.1)

    all-ranked : (es : List Element) (entries : List (Rank × ℤ)) → AllByRecursion P es → AllByRecursion IsRanked entries
        → AllByRecursion IsRanked (put_all rank_cmp entries (map (rank_of top) es))
    all-ranked [] entries h g = g
    all-ranked (e ∷ es) entries h g =
        all-ranked es (put rank_cmp (weight top e.1, e.0) e.1 entries) h.1 (all-put rank_cmp IsRanked (weight top e.1, e.0) e.1 entries (h.0, refl)
        (λ other tied. subst (λ (rank : Rank). IsRanked (rank, e.1)) (rank_same (weight top e.1, e.0) other tied) (h.0, refl)) g)

    all-elements : (entries : List (Rank × ℤ)) → AllByRecursion IsRanked entries → AllByRecursion P (map ranked_element entries)
    all-elements [] h = tt
    all-elements (entry ∷ entries) h = (h.0.0, all-elements entries h.1)

    -- what holds of the elements of a group holds of those that are kept
    pub all-kept : (k : ℤ) (es : List Element) → AllByRecursion P es → AllByRecursion P (first_ranked top k es)
    all-kept k es h = all-take P (count_of k) (ranked top es) (all-elements _ (all-ranked es [] h tt))

  module _ (q : Texts) (value : ℤ) (there : find labels_cmp q elements ≡ Some value) where
    abbrev own : Rank
    own = (weight top value, q)

    -- of what stands among the elements, the labels tie where the ranks do
    tied_rank : (entry : Rank × ℤ) → IsRanked IsOf entry → eq_by_cmp labels_cmp q entry.0.1 ≡ eq_by_cmp rank_cmp own entry.0
    tied_rank entry h =
        elim (eq_by_cmp labels_cmp q entry.0.1) as (λ b. eq_by_cmp labels_cmp q entry.0.1 ≡ b → b ≡ is_eq (ordering_then (int_cmp (weight top value) entry.0.0) (labels_cmp q entry.0.1))) [
          | true ↦ λ tied.
              let same : q ≡ entry.0.1 = labels_same q entry.0.1 ((Equal-is (labels_cmp q entry.0.1)).0 tied) in
              let both : Some value ≡ Some entry.1 = sym there ∙ ap (λ l. find labels_cmp l elements) same ∙ h.0 in
              let values : value ≡ entry.1 = cc in
              let level : int_cmp (weight top value) entry.0.0 ≡ Equal =
              ap (int_cmp (weight top value)) (h.1 ∙ ap (weight top) (sym values)) ∙ tied_itself int_cmp_total (weight top value) in
              sym (ap (λ r. is_eq (ordering_then r (labels_cmp q entry.0.1))) level ∙ tied)
          | false ↦ λ apart.
              sym (tied_then (int_cmp (weight top value) entry.0.0) (labels_cmp q entry.0.1) ∙ ap (λ b. is_eq (int_cmp (weight top value) entry.0.0) && b) apart ∙ and-false (is_eq (int_cmp (weight top value) entry.0.0)))
        ] refl

    -- so the labels are there where the rank is
    has-elements : (entries : List (Rank × ℤ)) → AllByRecursion (IsRanked IsOf) entries → has labels_cmp q (map ranked_element entries) ≡ has rank_cmp own entries
    has-elements [] h = refl
    has-elements (entry ∷ entries) h =
        ap (λ b. is_some (cond b (Some entry.1) (find labels_cmp q (map ranked_element entries)))) (tied_rank entry h.0)
        ∙ some-either (eq_by_cmp rank_cmp own entry.0) entry.1 (find labels_cmp q (map ranked_element entries)) (find rank_cmp own entries) (has-elements entries h.1)

    has-ranks : (es : List Element) → AllByRecursion IsOf es → has labels_cmp q es ≡ has rank_cmp own (map (rank_of top) es)
    has-ranks [] h = refl
    has-ranks (e ∷ es) h =
        ap (λ b. is_some (cond b (Some e.1) (find labels_cmp q es))) (tied_rank (rank_of top e) (h.0, refl))
        ∙ some-either (eq_by_cmp rank_cmp own (weight top e.1, e.0)) e.1 (find labels_cmp q es) (find rank_cmp own (map (rank_of top) es)) (has-ranks es h.1)

    -- those that go before an element are those of a lower rank
    goes-rank : (other : Element) → is_lt (rank_cmp (weight top other.1, other.0) own) ≡ goes_before top other (q, value)
    goes-rank other = ap (λ r. is_lt (ordering_then r (labels_cmp other.0 q))) (weight_cmp top other.1 value)

    abbrev goes : Element → Bool
    goes other = goes_before top other (q, value)

    -- ranks of other labels are other ranks
    fresh-further : (e : Element) (es : List Element) (entries : List (Rank × ℤ)) → Below labels_cmp (λ e. e.0) e.0 es
        → AllByRecursion (λ (f : Element). has rank_cmp (weight top f.1, f.0) entries ≡ false) es
        → AllByRecursion (λ (f : Element). has rank_cmp (weight top f.1, f.0) (put rank_cmp (weight top e.1, e.0) e.1 entries) ≡ false) es
    fresh-further e [] entries below h = tt
    fresh-further e (f ∷ es) entries below h = (
      ap is_some (find-put rank_cmp rank_total (weight top f.1, f.0) (weight top e.1, e.0) e.1 entries)
          ∙ ap (λ b. is_some (cond b (Some e.1) (find rank_cmp (weight top f.1, f.0) entries))) apart ∙ h.0,
      fresh-further e es entries below.1 h.1,
    )
      where
        apart : eq_by_cmp rank_cmp (weight top f.1, f.0) (weight top e.1, e.0) ≡ false
        apart = tied_then (int_cmp (weight top f.1) (weight top e.1)) (labels_cmp f.0 e.0)
            ∙ ap (λ r. is_eq (int_cmp (weight top f.1) (weight top e.1)) && is_eq r) (labels_total.antisymm f.0 e.0 ∙ ap ordering_reverse below.0)
            ∙ and-false (is_eq (int_cmp (weight top f.1) (weight top e.1)))

    count-ranks : (es : List Element) (entries : List (Rank × ℤ)) → Rises labels_cmp (λ e. e.0) es
        → AllByRecursion (λ (f : Element). has rank_cmp (weight top f.1, f.0) entries ≡ false) es
        → before rank_cmp own (put_all rank_cmp entries (map (rank_of top) es)) ≡ count_by goes es + before rank_cmp own entries
    count-ranks [] entries h fresh = omega arith
    count-ranks (e ∷ es) entries h fresh =
        let rest = count-ranks es (put rank_cmp (weight top e.1, e.0) e.1 entries) h.1 (fresh-further e es entries h.0 fresh.1) in
        let one = count-put rank_cmp rank_total (λ rank. is_lt (rank_cmp rank own)) (weight top e.1, e.0) e.1 entries fresh.0 in
        let same : ◌≡◌ {A = ℕ} (cond (is_lt (rank_cmp (weight top e.1, e.0) own)) 1 0) (cond (goes e) 1 0) = ap (λ b. cond b 1 0) (goes-rank e) in
        let all = sum_by-cons (λ (e : Element). cond (goes e) 1 0) e es in
        omega (arith, rest, one, same, all)

    all-fresh : (es : List Element) → AllByRecursion (λ (f : Element). has {X = ℤ} rank_cmp (weight top f.1, f.0) [] ≡ false) es
    all-fresh [] = tt
    all-fresh (e ∷ es) = (refl, all-fresh es)

    -- of a group in label order that has the element, it is kept where fewer than k go before it
    pub has-kept : (k : ℤ) (es : List Element) → Rises labels_cmp (λ e. e.0) es → AllByRecursion IsOf es → has labels_cmp q es ≡ true
        → has labels_cmp q (first_ranked top k es) ≡ ltb (count_by goes es) (count_of k)
    has-kept k es h of_these there_too =
        let s = in_order rank_cmp (map (rank_of top) es) in
        let ranked_too : AllByRecursion (IsRanked IsOf) s = all-ranked IsOf es [] of_these tt in
        ap (has labels_cmp q) (take-map ranked_element (count_of k) s)
        ∙ has-elements (take (count_of k) s) (all-take (IsRanked IsOf) (count_of k) s ranked_too)
        ∙ has-take rank_cmp rank_total own (count_of k) s (rises-entries rank_cmp s (sorted-put_all rank_cmp rank_total (map (rank_of top) es) [] tt))
        ∙ ap (λ b. b && ltb (before rank_cmp own s) (count_of k)) has-own
        ∙ ap (λ c. ltb c (count_of k)) (count-ranks es [] h (all-fresh es) ∙ omega arith)
      where
        of-pair : (entry : Rank × ℤ) → IsRanked IsOf entry → eq_by_cmp rank_cmp own entry.0 ≡ true → Some entry.1 ≡ Some value
        of-pair entry ranked tied =
            let same : q ≡ entry.0.1 = labels_same q entry.0.1 ((Equal-is (labels_cmp q entry.0.1)).0 (tied_rank entry ranked ∙ tied)) in
            sym ranked.0 ∙ ap (λ l. find labels_cmp l elements) (sym same) ∙ there

        ranked-pairs : (es : List Element) → AllByRecursion IsOf es → AllByRecursion (IsRanked IsOf) (map (rank_of top) es)
        ranked-pairs [] h = tt
        ranked-pairs (e ∷ es) h = ((h.0, refl), ranked-pairs es h.1)

        has-own : has rank_cmp own (in_order rank_cmp (map (rank_of top) es)) ≡ true
        has-own =
            ap is_some (found-put_all rank_cmp rank_total own (Some value) (map (rank_of top) es) []
            (all-so (IsRanked IsOf) (λ entry. eq_by_cmp rank_cmp own entry.0 ≡ true → Some entry.1 ≡ Some value) of-pair (map (rank_of top) es) (ranked-pairs es of_these)))
            ∙ ap (λ b. is_some (cond b (Some value) None)) (sym (has-ranks es of_these) ∙ there_too)
