-- Maps in the order of their keys that give the same at each key give the same list.
use Rattle.std.proofs.Common.{◌≡◌, true, false, List, [], ◌∷◌, ◌++◌, cond, Some, refl, ap, sym, ◌∙◌}
use Rattle.std.specs.declared.cmp.Ordering.{Ordering}
use Rattle.std.specs.declared.cmp.Ordering.TheVariants.{Less, Equal, Greater}
use Rattle.std.specs.Cmp.{IsTotalOrder, tied_itself, first_so, second_so}
use Rattle.std.specs.FinMap.Entries.{find, below_all, is_sorted}
use Rattle.std.specs.List.{flat_map}
use Rattle.std.specs.Option.{option_map_or}
use Rattle.std.specs.Ordering.{is_lt, is_eq, eq_by_cmp, ordering_reverse}
use Rattle.srv_store.proofs.PlaceLemmas.{both_so, below_further, find_under, is_tied}

module _ {K X Y A : Type 0} (R : K → K → Ordering) (o : IsTotalOrder R) (f : K × X → List A) (g : K × Y → List A) where
  below_tied : {Z : Type 0} (x y : K) (es : List (K × Z)) → R x y ≡ Equal → below_all R y es ≡ true → below_all R x es ≡ true
  below_tied x y [] tie below = refl
  below_tied x y (e ∷ es) tie below =
      both_so _ _ (ap is_lt (o.congr x y e.0 tie) ∙ first_so _ _ below) (below_tied x y es tie (second_so _ _ below))

  -- what a map gives at a key
  abbrev at_left : K → List (K × X) → List A
  at_left q es = option_map_or (λ x. f (q, x)) (find R q es) []

  abbrev at_right : K → List (K × Y) → List A
  at_right q fs = option_map_or (λ y. g (q, y)) (find R q fs) []

  left_first : (e : K × X) (es : List (K × X)) → at_left e.0 (e ∷ es) ≡ f e
  left_first e es = ap (λ r. option_map_or (λ x. f (e.0, x)) (cond (is_eq r) (Some e.1) (find R e.0 es)) []) (tied_itself o e.0)

  right_first : (e : K × Y) (fs : List (K × Y)) → at_right e.0 (e ∷ fs) ≡ g e
  right_first e fs = ap (λ r. option_map_or (λ y. g (e.0, y)) (cond (is_eq r) (Some e.1) (find R e.0 fs)) []) (tied_itself o e.0)

  left_none : (q : K) (es : List (K × X)) → below_all R q es ≡ true → at_left q es ≡ []
  left_none q es below = ap (λ s. option_map_or (λ x. f (q, x)) s []) (find_under R o q es below)

  right_none : (q : K) (fs : List (K × Y)) → below_all R q fs ≡ true → at_right q fs ≡ []
  right_none q fs below = ap (λ s. option_map_or (λ y. g (q, y)) s []) (find_under R o q fs below)

  left_rest : (q : K) (e : K × X) (es : List (K × X)) → eq_by_cmp R q e.0 ≡ false → at_left q (e ∷ es) ≡ at_left q es
  left_rest q e es apart = ap (λ b. option_map_or (λ x. f (q, x)) (cond b (Some e.1) (find R q es)) []) apart

  right_rest : (q : K) (e : K × Y) (fs : List (K × Y)) → eq_by_cmp R q e.0 ≡ false → at_right q (e ∷ fs) ≡ at_right q fs
  right_rest q e fs apart = ap (λ b. option_map_or (λ y. g (q, y)) (cond b (Some e.1) (find R q fs)) []) apart

  -- a key that ties or doesn't
  by_tie : (q k : K) (P : Type 0) → (R q k ≡ Equal → P) → (eq_by_cmp R q k ≡ false → P) → P
  by_tie q k P tied apart = elim (eq_by_cmp R q k) as (λ b. eq_by_cmp R q k ≡ b → P) [
    | true ↦ λ is. tied (is_tied _ is)
    | false ↦ λ is. apart is
  ] refl

  -- where the keys are the same one
  module _ (same : (x y : K) → R x y ≡ Equal → x ≡ y) where
    right_at : (k : K) (y : K × Y) (fs : List (K × Y)) → R k y.0 ≡ Equal → at_right k (y ∷ fs) ≡ g y
    right_at k y fs tie = ap (λ q. at_right q (y ∷ fs)) (same k y.0 tie) ∙ right_first y fs

    apart_too : (q k l : K) → R k l ≡ Equal → eq_by_cmp R q k ≡ false → eq_by_cmp R q l ≡ false
    apart_too q k l tie apart = ap (eq_by_cmp R q) (sym (same k l tie)) ∙ apart

    pub flat_same : (es : List (K × X)) (fs : List (K × Y)) → is_sorted R es ≡ true → is_sorted R fs ≡ true
        → ((q : K) → at_left q es ≡ at_right q fs) → flat_map f es ≡ flat_map g fs
    flat_same [] [] s t alike = refl
    flat_same [] (y ∷ fs) s t alike =
        flat_same [] fs s (second_so _ _ t) (λ q. by_tie q y.0 _
        (λ tie. sym (right_none q fs (below_tied q y.0 fs tie (first_so _ _ t))))
        (λ apart. alike q ∙ right_rest q y fs apart))
        ∙ ap (λ l. l ++ flat_map g fs) (alike y.0 ∙ right_first y fs)
    flat_same (e ∷ es) [] s t alike =
        ap (λ l. l ++ flat_map f es) (sym (left_first e es) ∙ alike e.0)
        ∙ flat_same es [] (second_so _ _ s) t (λ q. by_tie q e.0 _
        (λ tie. left_none q es (below_tied q e.0 es tie (first_so _ _ s)))
        (λ apart. sym (left_rest q e es apart) ∙ alike q))
    flat_same (e ∷ es) (y ∷ fs) s t alike =
        elim (R e.0 y.0) as (λ r. R e.0 y.0 ≡ r → flat_map f (e ∷ es) ≡ flat_map g (y ∷ fs)) [
          | Less ↦ λ less.
              let under : below_all R e.0 (y ∷ fs) ≡ true = both_so _ _ (ap is_lt less) (below_further R o e.0 y.0 fs less (first_so _ _ t)) in
              ap (λ l. l ++ flat_map f es) (sym (left_first e es) ∙ alike e.0 ∙ right_none e.0 (y ∷ fs) under)
              ∙ flat_same es (y ∷ fs) (second_so _ _ s) t (λ q. by_tie q e.0 _
              (λ tie. left_none q es (below_tied q e.0 es tie (first_so _ _ s)) ∙ sym (right_none q (y ∷ fs) (below_tied q e.0 (y ∷ fs) tie under)))
              (λ apart. sym (left_rest q e es apart) ∙ alike q))
          | Equal ↦ λ tie.
              let heads : f e ≡ g y = sym (left_first e es) ∙ alike e.0 ∙ right_at e.0 y fs tie in
              ap (λ l. l ++ flat_map f es) heads
              ∙ ap (λ l. g y ++ l) (flat_same es fs (second_so _ _ s) (second_so _ _ t) (λ q. by_tie q e.0 _
              (λ ties. left_none q es (below_tied q e.0 es ties (first_so _ _ s))
              ∙ sym (right_none q fs (below_tied q e.0 fs ties (below_tied e.0 y.0 fs tie (first_so _ _ t)))))
              (λ apart. sym (left_rest q e es apart) ∙ alike q ∙ right_rest q y fs (apart_too q e.0 y.0 tie apart))))
          | Greater ↦ λ greater.
              let less : R y.0 e.0 ≡ Less = o.antisymm y.0 e.0 ∙ ap ordering_reverse greater in
              let under : below_all R y.0 (e ∷ es) ≡ true = both_so _ _ (ap is_lt less) (below_further R o y.0 e.0 es less (first_so _ _ s)) in
              flat_same (e ∷ es) fs s (second_so _ _ t) (λ q. by_tie q y.0 _
              (λ tie. left_none q (e ∷ es) (below_tied q y.0 (e ∷ es) tie under) ∙ sym (right_none q fs (below_tied q y.0 fs tie (first_so _ _ t))))
              (λ apart. alike q ∙ right_rest q y fs apart))
              ∙ ap (λ l. l ++ flat_map g fs) (sym (left_none y.0 (e ∷ es) under) ∙ alike y.0 ∙ right_first y fs)
        ] refl
