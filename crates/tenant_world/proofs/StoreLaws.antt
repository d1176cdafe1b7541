-- The entries of one namespace in stores and in what a store takes.
use Rattle.std.proofs.Common.{◌≡◌, ℕ, Bool, true, false, cond, ◌&&◌, ◌||◌, List, [], ◌∷◌, ◌++◌, nat_eq, refl, sym, ap, ◌∙◌, append-nil}
use mathlib.Core.Bool.{true≢false}
use Rattle.std.proofs.lemmas.List.Elements.{filter-append}
use Rattle.std.specs.Cmp.{first_so, second_so}
use Rattle.std.specs.Cmp.Lexicographic.{pointwise, bytes_decides}
use Rattle.op_base.specs.Labels.{Texts, entry_eq}
use Rattle.srv_store.specs.declared.entry.Entry.{Entry}
use Rattle.srv_store.specs.Stores.{Store, same_labels, same_moment, is_twin, has_twin, fresh, with_all, owns, of_namespace}

-- equal label sets are the same
entries_equal : (x y : List ℕ × List ℕ) → entry_eq x y ≡ true → x ≡ y
entries_equal x y h = λ i. (
  (bytes_decides x.0 y.0).0 (first_so (pointwise nat_eq x.0 y.0) (pointwise nat_eq x.1 y.1) h) i,
  (bytes_decides x.1 y.1).0 (second_so (pointwise nat_eq x.0 y.0) (pointwise nat_eq x.1 y.1) h) i,
)

pub labels_equal : (these those : Texts) → same_labels these those ≡ true → these ≡ those
labels_equal [] [] h = refl
labels_equal [] (y ∷ ys) h = absurd (true≢false (sym h))
labels_equal (x ∷ xs) [] h = absurd (true≢false (sym h))
labels_equal (x ∷ xs) (y ∷ ys) h = λ i. entries_equal x y (first_so (entry_eq x y) (same_labels xs ys) h) i ∷ labels_equal xs ys (second_so (entry_eq x y) (same_labels xs ys) h) i

module _ (n : List ℕ) where
  pub of-append : (s t : Store) → of_namespace n (s ++ t) ≡ of_namespace n s ++ of_namespace n t
  of-append s t = filter-append (λ (e : Entry). owns n e.labels) s t

  never_both : (a b : Bool) → (b ≡ true → ⊥) → (a && b) ≡ false
  never_both false b h = refl
  never_both true false h = refl
  never_both true true h = absurd (h refl)

  -- an entry of the namespace has its twins there
  apart : (e f : Entry) → owns n e.labels ≡ true → owns n f.labels ≡ false → is_twin e f ≡ false
  apart e f own other =
      never_both (same_moment e.at f.at) (same_labels e.labels f.labels)
      (λ same. true≢false (sym own ∙ ap (owns n) (labels_equal e.labels f.labels same) ∙ other))

  has_twin-of : (s : Store) (e : Entry) → owns n e.labels ≡ true → has_twin (of_namespace n s) e ≡ has_twin s e
  has_twin-of [] e own = refl
  has_twin-of (f ∷ s) e own =
      elim (owns n f.labels) as (λ b. owns n f.labels ≡ b → has_twin (cond b (f ∷ of_namespace n s) (of_namespace n s)) e ≡ has_twin (f ∷ s) e) [
        | true ↦ λ _. ap (λ b. is_twin e f || b) (has_twin-of s e own)
        | false ↦ λ other. has_twin-of s e own ∙ ap (λ b. b || has_twin s e) (sym (apart e f own other))
      ] refl

  kept : (s : Store) (e : Entry) → owns n e.labels ≡ true → of_namespace n (s ++ e ∷ []) ≡ of_namespace n s ++ e ∷ []
  kept s e own = of-append s (e ∷ []) ∙ ap (λ b. of_namespace n s ++ cond b (e ∷ []) []) own

  left_out : (s : Store) (e : Entry) → owns n e.labels ≡ false → of_namespace n (s ++ e ∷ []) ≡ of_namespace n s
  left_out s e other = of-append s (e ∷ []) ∙ ap (λ b. of_namespace n s ++ cond b (e ∷ []) []) other ∙ append-nil (of_namespace n s)

  own_first : (s : Store) (e : Entry) (es : List Entry) → ((s : Store) → of_namespace n (fresh s es) ≡ fresh (of_namespace n s) (of_namespace n es)) → owns n e.labels ≡ true → of_namespace n (fresh s (e ∷ es)) ≡ fresh (of_namespace n s) (e ∷ of_namespace n es)
  own_first s e es rest own =
      elim (has_twin s e) as (λ b. has_twin s e ≡ b → of_namespace n (cond b (fresh s es) (e ∷ fresh (s ++ e ∷ []) es))
      ≡ cond (has_twin (of_namespace n s) e) (fresh (of_namespace n s) (of_namespace n es)) (e ∷ fresh (of_namespace n s ++ e ∷ []) (of_namespace n es))) [
        | true ↦ λ twin. rest s
            ∙ ap (λ b. cond b (fresh (of_namespace n s) (of_namespace n es)) (e ∷ fresh (of_namespace n s ++ e ∷ []) (of_namespace n es))) (sym (has_twin-of s e own ∙ twin))
        | false ↦ λ new. ap (λ b. cond b (e ∷ of_namespace n (fresh (s ++ e ∷ []) es)) (of_namespace n (fresh (s ++ e ∷ []) es))) own
            ∙ ap (λ l. e ∷ l) (rest (s ++ e ∷ []) ∙ ap (λ (x : Store). fresh x (of_namespace n es)) (kept s e own))
            ∙ ap (λ b. cond b (fresh (of_namespace n s) (of_namespace n es)) (e ∷ fresh (of_namespace n s ++ e ∷ []) (of_namespace n es))) (sym (has_twin-of s e own ∙ new))
      ] refl

  other_first : (s : Store) (e : Entry) (es : List Entry) → ((s : Store) → of_namespace n (fresh s es) ≡ fresh (of_namespace n s) (of_namespace n es)) → owns n e.labels ≡ false → of_namespace n (fresh s (e ∷ es)) ≡ fresh (of_namespace n s) (of_namespace n es)
  other_first s e es rest other =
      elim (has_twin s e) as (λ b. of_namespace n (cond b (fresh s es) (e ∷ fresh (s ++ e ∷ []) es)) ≡ fresh (of_namespace n s) (of_namespace n es)) [
        | true ↦ rest s
        | false ↦ ap (λ b. cond b (e ∷ of_namespace n (fresh (s ++ e ∷ []) es)) (of_namespace n (fresh (s ++ e ∷ []) es))) other
            ∙ rest (s ++ e ∷ []) ∙ ap (λ (x : Store). fresh x (of_namespace n es)) (left_out s e other)
      ]

  -- what a store takes of entries, and of the namespace's
  pub fresh-of : (s : Store) (es : List Entry) → of_namespace n (fresh s es) ≡ fresh (of_namespace n s) (of_namespace n es)
  fresh-of s [] = refl
  fresh-of s (e ∷ es) =
      elim (owns n e.labels) as (λ b. owns n e.labels ≡ b → of_namespace n (fresh s (e ∷ es)) ≡ fresh (of_namespace n s) (cond b (e ∷ of_namespace n es) (of_namespace n es))) [
        | true ↦ λ own. own_first s e es (λ t. fresh-of t es) own
        | false ↦ λ other. other_first s e es (λ t. fresh-of t es) other
      ] refl

  pub with_all-of : (s : Store) (es : List Entry) → of_namespace n (with_all s es) ≡ with_all (of_namespace n s) (of_namespace n es)
  with_all-of s es = of-append s (fresh s es) ∙ ap (λ l. of_namespace n s ++ l) (fresh-of s es)
