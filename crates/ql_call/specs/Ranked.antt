-- `topk` and `bottomk`: of each group the greatest or the least elements, with all their labels. Of equal
-- values the one that is first in label order goes first.
use Rattle.std.specs.Prelude.{ℕ, zero, ℤ, pos, negsuc, neg_ℤ, List, Bool, true, false, map, take}
use Rattle.std.specs.List.{flat_map}
use Rattle.std.specs.declared.cmp.Ordering.{Ordering}
use Rattle.std.specs.Ordering.{int_cmp, on, then_cmp}
use Rattle.op_base.specs.Labels.{Texts, labels_cmp}
use Rattle.op_base.specs.Maps.{in_order}
use Rattle.srv_store.specs.Stores.{Vector}
use Rattle.ql_call.specs.Elements.{Element}

-- a weight, and labels
abbrev pub Rank : Type 0
Rank = ℤ × Texts

-- the lighter goes first
abbrev pub rank_cmp : Rank → Rank → Ordering
rank_cmp = then_cmp (on (λ (rank : Rank). rank.0) int_cmp) (on (λ (rank : Rank). rank.1) labels_cmp)

-- the greater a value, the lighter it is for `topk`
abbrev pub weight : Bool → ℤ → ℤ
weight true value = neg_ℤ value
weight false value = value

-- an element with its rank
abbrev pub rank_of : Bool → Element → Rank × ℤ
rank_of top e = ((weight top e.1, e.0), e.1)

-- the element of a rank
abbrev pub ranked_element : Rank × ℤ → Element
ranked_element ranked = (ranked.0.1, ranked.1)

-- the elements of a group, the lightest first
abbrev pub ranked : Bool → List Element → List Element
ranked top elements = map ranked_element (in_order rank_cmp (map (rank_of top) elements))

-- how many are kept: below 1 none
abbrev pub count_of : ℤ → ℕ
count_of (pos n) = n
count_of (negsuc n) = zero

-- the first elements by rank, as many as are asked for
abbrev pub first_ranked : Bool → ℤ → List Element → List Element
first_ranked top k elements = take (count_of k) (ranked top elements)

-- what is kept of all groups, in label order
abbrev pub best_of : Bool → ℤ → List (Texts × List Element) → Vector
best_of top k groups = in_order labels_cmp (flat_map (λ (group : Texts × List Element). first_ranked top k group.1) groups)
