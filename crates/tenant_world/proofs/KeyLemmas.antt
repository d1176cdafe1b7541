-- Maps by keys: the keys that pass a test.
use Rattle.std.proofs.Common.{◌≡◌, ℕ, Bool, true, false, cond, T, List, Option, None, Some, refl, sym, ap, ◌∙◌}
use mathlib.Core.Bool.{true≢false}
use Rattle.std.specs.declared.cmp.Ordering.{Ordering}
use Rattle.std.specs.declared.cmp.Ordering.TheVariants.{Less, Equal, Greater}
use Rattle.std.specs.Ordering.{is_eq, eq_by_cmp}
use Rattle.std.specs.Cmp.{IsTotalOrder}
use Rattle.std.specs.FinMap.Entries.{find, put, where_key, is_sorted, is_sorted-put, is_sorted-where_key, find-put, find-where_key, same_entries}

equal : (r : Ordering) → is_eq r ≡ true → r ≡ Equal
equal Less h = absurd (true≢false (sym h))
equal Equal h = refl
equal Greater h = absurd (true≢false (sym h))

swapped : {A : Type 0} (a b : Bool) (x y : Option A) → (b ≡ true → a ≡ true) → cond a (cond b x y) None ≡ cond b x (cond a y None)
swapped true true x y h = refl
swapped true false x y h = refl
swapped false true x y h = absurd (true≢false (sym (h refl)))
swapped false false x y h = refl

passed_by : {A : Type 0} (a b : Bool) (x y : Option A) → (b ≡ true → a ≡ false) → cond a (cond b x y) None ≡ cond a y None
passed_by true true x y h = absurd (true≢false (h refl))
passed_by true false x y h = refl
passed_by false b x y h = refl

module _ {K : Type 0} (R : K → K → Ordering) (same : (x y : K) → R x y ≡ Equal → x ≡ y) (p : K → Bool) where
  -- a test answers alike at keys that tie
  pub alike : (q x : K) → R q x ≡ Equal → p x ≡ p q
  alike q x e = ap p (sym (same q x e))

  pub at_key : (q k : K) → eq_by_cmp R q k ≡ true → p q ≡ p k
  at_key q k e = ap p (same q k (equal (R q k) e))

module _ {K X : Type 0} (R : K → K → Ordering) (o : IsTotalOrder R) (same : (x y : K) → R x y ≡ Equal → x ≡ y) (p : K → Bool) where
  -- what was put at a key that passes stays
  pub where_key-put_kept : (k : K) (v : X) (es : List (K × X)) → p k ≡ true → T (is_sorted R es) → where_key R p (put R k v es) ≡ put R k v (where_key R p es)
  where_key-put_kept k v es kept h =
      same_entries R o same (where_key R p (put R k v es)) (put R k v (where_key R p es))
      (is_sorted-where_key R p (put R k v es) (is_sorted-put R o k v es h)) (is_sorted-put R o k v (where_key R p es) (is_sorted-where_key R p es h))
      (λ q. find-where_key R p q (alike R same p q) (put R k v es) ∙ ap (λ x. cond (p q) x None) (find-put R o q k v es)
      ∙ swapped (p q) (eq_by_cmp R q k) (Some v) (find R q es) (λ e. at_key R same p q k e ∙ kept)
      ∙ sym (find-put R o q k v (where_key R p es) ∙ ap (cond (eq_by_cmp R q k) (Some v)) (find-where_key R p q (alike R same p q) es)))

  -- at another key it changes nothing
  pub where_key-put_dropped : (k : K) (v : X) (es : List (K × X)) → p k ≡ false → T (is_sorted R es) → where_key R p (put R k v es) ≡ where_key R p es
  where_key-put_dropped k v es dropped h =
      same_entries R o same (where_key R p (put R k v es)) (where_key R p es)
      (is_sorted-where_key R p (put R k v es) (is_sorted-put R o k v es h)) (is_sorted-where_key R p es h)
      (λ q. find-where_key R p q (alike R same p q) (put R k v es) ∙ ap (λ x. cond (p q) x None) (find-put R o q k v es)
      ∙ passed_by (p q) (eq_by_cmp R q k) (Some v) (find R q es) (λ e. at_key R same p q k e ∙ dropped)
      ∙ sym (find-where_key R p q (alike R same p q) es))
