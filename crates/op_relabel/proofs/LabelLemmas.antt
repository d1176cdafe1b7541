-- A label set that is put label by label is itself.
use Rattle.std.proofs.Common.{◌≡◌, ℕ, ◌<◌, Bool, true, false, List, [], ◌∷◌, ◌++◌, filter, cond, length, refl, ap, sym, subst, ◌∙◌}
use Rattle.std.specs.declared.cmp.Ordering.TheVariants.{Less, Greater}
use Rattle.std.specs.List.{AllByRecursion}
use Rattle.std.specs.List.Sorted.{IsStrictlySortedBy}
use Rattle.std.specs.Ordering.{nat_cmp, ordering_reverse}
use Rattle.std.specs.Cmp.Lexicographic.{slice_cmp, nat_list_cmp_total}
use Rattle.std.specs.FinMap.Entries.{by_order}
use Rattle.std.proofs.lemmas.List.{append-nil, append_assoc}
use Rattle.op_base.specs.Maps.{IsMap, with_entry, keys_of}
use Rattle.op_base.specs.Labels.{Texts, IsLabels, labels_with_all}
use Rattle.op_base.proofs.EntryLemmas.{labels_with-some}

-- what holds of all names holds of one of them and of the others
middle : (P : List ℕ → Type 0) (front back : Texts) (x : List ℕ × List ℕ) → AllByRecursion P (keys_of (front ++ x ∷ back))
    → P x.0 × AllByRecursion P (keys_of (front ++ back))
middle P [] back x h = h
middle P (e ∷ front) back x h = let rest = middle P front back x h.1 in (rest.0, (h.0, rest.1))

without_middle : (front back : Texts) (x : List ℕ × List ℕ) → IsMap (front ++ x ∷ back) → IsMap (front ++ back)
unfolding IsStrictlySortedBy
without_middle [] back x h = h.1
without_middle (e ∷ front) back x h =
    ((middle (λ y. slice_cmp nat_cmp e.0 y ≡ Less) front back x h.0).1, without_middle front back x h.1)

-- a name behind all others is put at the end
put-last : (front back : Texts) (x : List ℕ × List ℕ) → IsMap (front ++ x ∷ back) → with_entry front x.0 x.1 ≡ front ++ x ∷ []
unfolding IsStrictlySortedBy
put-last [] back x h = refl
put-last (e ∷ front) back x h =
    let less = (middle (λ y. slice_cmp nat_cmp e.0 y ≡ Less) front back x h.0).0 in
    let greater : slice_cmp nat_cmp x.0 e.0 ≡ Greater = nat_list_cmp_total.antisymm x.0 e.0 ∙ ap ordering_reverse less in
    ap (λ o. by_order o ((x.0, x.1) ∷ e ∷ front) ((e.0, x.1) ∷ front) (e ∷ with_entry front x.0 x.1)) greater
    ∙ ap (λ l. e ∷ l) (put-last front back x h.1)

rebuilt-after : (keep : List ℕ × List ℕ → Bool) (front back : Texts) → IsMap (front ++ back) → AllByRecursion (λ entry. 0 < length entry.1) back
    → labels_with_all front (filter keep back) ≡ front ++ filter keep back
rebuilt-after keep front [] rises some = sym (append-nil front)
rebuilt-after keep front (x ∷ back) rises some =
    elim (keep x) as (λ b. labels_with_all front (cond b (x ∷ filter keep back) (filter keep back)) ≡ front ++ cond b (x ∷ filter keep back) (filter keep back)) [
      | true ↦
          ap (λ labels. labels_with_all labels (filter keep back)) (sym (labels_with-some front x.0 x.1 some.0) ∙ put-last front back x rises)
          ∙ rebuilt-after keep (front ++ x ∷ []) back (subst IsMap (sym (append_assoc front (x ∷ []) back)) rises) some.1
          ∙ append_assoc front (x ∷ []) (filter keep back)
      | false ↦ rebuilt-after keep front back (without_middle front back x rises) some.1
    ]

pub rebuilt : (keep : List ℕ × List ℕ → Bool) (labels : Texts) → IsLabels labels → labels_with_all [] (filter keep labels) ≡ filter keep labels
rebuilt keep labels h = rebuilt-after keep [] labels h.0 h.1
