-- Fields that are put in two runs, and lists of values as arrays.
use Rattle.std.proofs.Common.{◌≡◌, ℕ, ◌+◌, ◌<◌, ◌≤◌, List, [], ◌∷◌, ◌++◌, map, take, get_or, length, refl, ap, sym, ◌∙◌}
use Rattle.std.proofs.lemmas.List.{take_more, take_all, map-append}
use Rattle.serde_json.specs.Data.{Data, Members, put, item}
use Rattle.serde_json.specs.View as shown
use Rattle.op_json.specs.Json.{Json, data_of, items_of, members_after, fields_of, elements_of}

pub after_append : (ms : Members) (xs ys : List (List ℕ × Json)) → members_after ms (fields_of (xs ++ ys)) ≡ members_after (members_after ms (fields_of xs)) (fields_of ys)
after_append ms [] ys = refl
after_append ms (x ∷ xs) ys = after_append (put x.0 (data_of x.1) ms) xs ys

pub array_items : (js : List Json) → items_of (elements_of js) ≡ shown.items_of (map data_of js)
array_items [] = refl
array_items (j ∷ js) = ap (item (data_of j)) (array_items js)

-- the same, where the values are made of other things
pub array_of_each : {X : Type 0} (f : X → Json) (xs : List X) → items_of (elements_of (map f xs)) ≡ shown.items_of (map (λ x. data_of (f x)) xs)
array_of_each f [] = refl
array_of_each f (x ∷ xs) = ap (item (data_of (f x))) (array_of_each f xs)

-- one more field is put
pub one_more : {X : Type 0} (f : X → List ℕ × Json) (ms : Members) (xs : List X) (i : ℕ) (d : X) → i < length xs
    → members_after ms (fields_of (map f (take (i + 1) xs))) ≡ put (f (get_or xs i d)).0 (data_of (f (get_or xs i d)).1) (members_after ms (fields_of (map f (take i xs))))
one_more f ms xs i d h =
    ap (λ ys. members_after ms (fields_of (map f ys))) (take_more xs i d h)
    ∙ ap (λ fs. members_after ms (fields_of fs)) (map-append f (take i xs) (get_or xs i d ∷ []))
    ∙ after_append ms (map f (take i xs)) (f (get_or xs i d) ∷ [])

-- all fields were put
pub all_put : {X : Type 0} (f : X → List ℕ × Json) (ms : Members) (xs : List X) (i : ℕ) → length xs ≤ i
    → members_after ms (fields_of (map f (take i xs))) ≡ members_after ms (fields_of (map f xs))
all_put f ms xs i h = ap (λ ys. members_after ms (fields_of (map f ys))) (take_all i xs h)

-- a loop over a list puts the field of its next item
pub put_next : {X : Type 0} (f : X → List ℕ × Json) (ms : Members) (xs : List X) (i : ℕ) (d : X) (old new : Members) (name : List ℕ) (value : Data)
    → i < length xs → new ≡ put name value old → old ≡ members_after ms (fields_of (map f (take i xs)))
    → name ≡ (f (get_or xs i d)).0 → value ≡ data_of (f (get_or xs i d)).1
    → new ≡ members_after ms (fields_of (map f (take (i + 1) xs)))
put_next f ms xs i d old new name value h is so_far same_name same_value =
    is ∙ ap (λ n. put n value old) same_name ∙ ap (λ v. put (f (get_or xs i d)).0 v old) same_value
    ∙ ap (put (f (get_or xs i d)).0 (data_of (f (get_or xs i d)).1)) so_far ∙ sym (one_more f ms xs i d h)
