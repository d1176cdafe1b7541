-- Lists that a loop makes item by item.
use Rattle.std.proofs.Common.{◌≡◌, ℕ, ◌+◌, ◌<◌, List, [], ◌∷◌, ◌++◌, Option, take, get_or, length, ap, sym, ◌∙◌}
use Rattle.std.specs.List.{filter_map}
use Rattle.std.proofs.lemmas.List.{take_more}
use Rattle.std.proofs.lemmas.List.Elements.{filter_map-append}

-- one more item is looked at
pub filter_map-next : {X Y : Type 0} (f : X → Option Y) (items : List X) (i : ℕ) (item d : X) (old new : List Y)
    → i < length items → item ≡ get_or items i d → new ≡ old ++ filter_map f (item ∷ []) → old ≡ filter_map f (take i items)
    → new ≡ filter_map f (take (i + 1) items)
filter_map-next f items i item d old new below at step so_far =
    step
    ∙ ap (λ front. front ++ filter_map f (item ∷ [])) so_far
    ∙ ap (λ x. filter_map f (take i items) ++ filter_map f (x ∷ [])) at
    ∙ sym (filter_map-append f (take i items) (get_or items i d ∷ []))
    ∙ ap (filter_map f) (sym (take_more items i d below))
