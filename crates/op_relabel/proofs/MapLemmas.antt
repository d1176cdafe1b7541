-- Labels that are put to a label set one after the other.
use Rattle.std.proofs.Common.{◌≡◌, ℕ, ◌+◌, ◌<◌, ◌≤◌, List, [], ◌∷◌, ◌++◌, Option, take, length, ap, sym, ◌∙◌}
use Rattle.std.specs.List.{filter_map}
use Rattle.std.proofs.lemmas.List.{take_all, take_more}
use Rattle.std.proofs.lemmas.List.Elements.{filter_map-append}
use Rattle.std.proofs.lemmas.List.Sums.{fold-append}
use Rattle.op_base.specs.Labels.{Texts, labels_with, labels_with_all, entry_in, name_in, text_in}

module _ (f : List ℕ × List ℕ → Option (List ℕ × List ℕ)) (labels start : Texts) where
  -- the label at a place is its name and its text
  label_is : (place : ℕ) (name value : List ℕ) → name ≡ name_in labels place → value ≡ text_in labels place → (name, value) ≡ entry_in labels place
  label_is place name value named worded = λ i. (named i, worded i)

  -- one more label was looked at
  pub put-next : (old new : Texts) (place : ℕ) (name value : List ℕ) → place < length labels → name ≡ name_in labels place → value ≡ text_in labels place
      → new ≡ labels_with_all old (filter_map f ((name, value) ∷ []))
      → old ≡ labels_with_all start (filter_map f (take place labels))
      → new ≡ labels_with_all start (filter_map f (take (place + 1) labels))
  put-next old new place name value below named worded step so_far =
      step
      ∙ ap (λ left. labels_with_all left (filter_map f ((name, value) ∷ []))) so_far
      ∙ ap (λ label. labels_with_all (labels_with_all start (filter_map f (take place labels))) (filter_map f (label ∷ []))) (label_is place name value named worded)
      ∙ sym (fold-append (λ (put : Texts) (other : List ℕ × List ℕ). labels_with put other.0 other.1) start (filter_map f (take place labels)) (filter_map f (entry_in labels place ∷ [])))
      ∙ ap (labels_with_all start) (sym (filter_map-append f (take place labels) (entry_in labels place ∷ [])))
      ∙ ap (λ front. labels_with_all start (filter_map f front)) (sym (take_more labels place ([], []) below))

  -- all labels were looked at
  pub put-end : (left : Texts) (place : ℕ) → length labels ≤ place → left ≡ labels_with_all start (filter_map f (take place labels))
      → left ≡ labels_with_all start (filter_map f labels)
  put-end left place past so_far = so_far ∙ ap (λ front. labels_with_all start (filter_map f front)) (take_all place labels past)
