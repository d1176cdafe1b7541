-- Steps of loops over slices.
use Rattle.std.proofs.Common.{◌≡◌, ℕ, ◌+◌, ◌<◌, ◌≤◌, [], ◌∷◌, ◌++◌, List, ap, sym, ◌∙◌, length, get_or, drop, fold, filter, cond, Bool, true, false, if◌then◌else◌, refl, append_assoc, append-nil}
use Rattle.std.proofs.Math.ListN.{drop_of_length-le}
use Rattle.std.proofs.lemmas.List.{at_drop_more}

-- what is left begins with the next item
pub next_of : {X Y : Type 0} (F : List X → Y) (xs : List X) (i : ℕ) (x : X) → i < length xs → x ≡ get_or xs i x → F (drop i xs) ≡ F (x ∷ drop (i + 1) xs)
next_of F xs i x h is = at_drop_more F xs i x h ∙ ap (λ y. F (y ∷ drop (i + 1) xs)) (sym is)

-- a fold of what is left, after the next item
pub fold_next : {X Y : Type 0} (f : Y → X → Y) (xs : List X) (i : ℕ) (x : X) (all so_far next : Y) → i < length xs → x ≡ get_or xs i x
    → all ≡ fold f so_far (drop i xs) → next ≡ f so_far x → all ≡ fold f next (drop (i + 1) xs)
fold_next f xs i x all so_far next h is before step =
    before ∙ next_of (fold f so_far) xs i x h is ∙ ap (λ y. fold f y (drop (i + 1) xs)) (sym step)

module _ {X Y : Type 0} (F : List X → List Y) (xs : List X) where
  -- what is made of all, after the piece that is made of the next item
  pub grown : (i : ℕ) (x : X) (all out next piece : List Y) → i < length xs → x ≡ get_or xs i x
      → F (x ∷ drop (i + 1) xs) ≡ piece ++ F (drop (i + 1) xs)
      → all ≡ out ++ F (drop i xs) → next ≡ out ++ piece → all ≡ next ++ F (drop (i + 1) xs)
  grown i x all out next piece h is one before step =
      before ∙ ap (λ rest. out ++ rest) (next_of F xs i x h is ∙ one)
      ∙ sym (append_assoc out piece (F (drop (i + 1) xs)))
      ∙ ap (λ made. made ++ F (drop (i + 1) xs)) (sym step)

  -- after the last item all is made
  pub grown_whole : (i : ℕ) (all out : List Y) → length xs ≤ i → F [] ≡ []
      → all ≡ out ++ F (drop i xs) → out ≡ all
  grown_whole i all out h none before =
      sym (before ∙ ap (λ rest. out ++ F rest) (drop_of_length-le xs h) ∙ ap (λ rest. out ++ rest) none ∙ append-nil out)

-- after the last item a fold is done
pub fold_whole : {X Y : Type 0} (f : Y → X → Y) (xs : List X) (i : ℕ) (all so_far : Y) → length xs ≤ i
    → all ≡ fold f so_far (drop i xs) → so_far ≡ all
fold_whole f xs i all so_far h before = sym (before ∙ ap (fold f so_far) (drop_of_length-le xs h))

-- what a filter keeps of the next item
pub filter_next : {X : Type 0} (p : X → Bool) (x : X) (rest : List X) → filter p (x ∷ rest) ≡ (if p x then x ∷ [] else []) ++ filter p rest
filter_next p x rest = kept (p x)
  where
    kept : (b : Bool) → cond b (x ∷ filter p rest) (filter p rest) ≡ (if b then x ∷ [] else []) ++ filter p rest
    kept true = refl
    kept false = refl
