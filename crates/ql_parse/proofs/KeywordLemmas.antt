-- A look-up in a table, entry by entry.
use Rattle.std.proofs.Common.{◌≡◌, ℕ, zero, suc, ◌+◌, ◌<◌, Bool, true, false, List, [], ◌∷◌, Option, Some, cond, length, get_or, drop, map, refl, ap, sym, ◌∙◌, arith, add-one}
use Rattle.ql_tree.specs.Words.{found_in}

module _ {A V : Type 0} (is_key : List ℕ → Bool) (key : A → List ℕ) (value : A → V) where
  abbrev pub found_from : ℕ → List A → Option V
  found_from i entries = found_in is_key (map (λ entry. (key entry, value entry)) (drop i entries))

  -- the entry at the place has the key, or what is behind it is looked through
  found_at : (entries : List A) (i : ℕ) (d : A) → i < length entries
      → found_from i entries
      ≡ cond (is_key (key (get_or entries i d))) (Some (value (get_or entries i d)))
      (found_from (suc i) entries)
  found_at [] i d inside = absurd (omega arith)
  found_at (entry ∷ entries) zero d inside = refl
  found_at (entry ∷ entries) (suc i) d inside = found_at entries i d (omega arith)

  pub found_here : (entries : List A) (i : ℕ) (d : A) → i < length entries
      → is_key (key (get_or entries i d)) ≡ true
      → found_from i entries ≡ Some (value (get_or entries i d))
  found_here entries i d inside is =
      found_at entries i d inside
      ∙ ap (λ t. cond t (Some (value (get_or entries i d))) (found_from (suc i) entries)) is

  pub found_later : (entries : List A) (i : ℕ) (d : A) → i < length entries
      → is_key (key (get_or entries i d)) ≡ false
      → found_from i entries ≡ found_from (i + 1) entries
  found_later entries i d inside other =
      found_at entries i d inside
      ∙ ap (λ t. cond t (Some (value (get_or entries i d))) (found_from (suc i) entries)) other
      ∙ ap (λ k. found_from k entries) (sym (add-one i))
