-- An ordered map of the library is looked up, filled and ordered as the list of entries that it shows is. Of a key
-- it shows `key_shown`.
use Rattle.std.proofs.Common.{◌≡◌, ◌-◌, Bool, List, [], ◌∷◌, ◌++◌, length, map, MatchOption, Option, None, Some, cond, slice_get, take, unwrap_or, refl, ap, sym, subst, ◌∙◌, arith}
use Rattle.std.specs.declared.cmp.Ordering.{Ordering}
use Rattle.std.specs.declared.cmp.Ordering.TheVariants.{Less, Equal, Greater}
use Rattle.std.specs.Ordering.{is_eq, match_ordering}
use Rattle.std.specs.Cmp.{IsTotalOrder}
use Rattle.std.specs.BTreeMap.{insert_entry}
use Rattle.std.specs.FinMap.{find, put}
use Rattle.std.specs.FinMap.Entries.{by_order}
use Rattle.std.specs.List.{AllByRecursion}
use Rattle.std.specs.List.Sorted.{IsStrictlySortedBy}
use Rattle.std.specs.Map.{lookup, set_value}
use Rattle.std.proofs.lemmas.Map.Steps.{set_value_same}
use Rattle.std.specs.Option.{option_map_or}
use Rattle.std.proofs.Math.Seq.{take-append_seam}
use Rattle.std.proofs.lemmas.List.{length_push}
use Rattle.op_base.specs.Maps.{keys_of, IsOrdered, last_member, with_member, without_last}

-- what is shown of entries
abbrev pub shown : {K Q X : Type 0} → (K → Q) → List (K × X) → List (Q × X)
shown key_shown es = map (λ entry. (key_shown entry.0, entry.1)) es

-- keys stand as what is shown of them
abbrev pub by_shown : {K Q : Type 0} → (K → Q) → (Q → Q → Ordering) → K → K → Ordering
by_shown key_shown R k l = R (key_shown k) (key_shown l)

-- a query compares to what is shown of keys
abbrev pub query : {K Q : Type 0} → (K → Q) → (Q → Q → Ordering) → Q → K → Bool
query key_shown R key k = is_eq (R key (key_shown k))

module _ {K Q X : Type 0} (key_shown : K → Q) (R : Q → Q → Ordering) where
  pub found : (key : Q) (es : List (K × X)) (m : List (Q × X)) → shown key_shown es ≡ m → lookup (query key_shown R key) es ≡ find R key m
  found key es m seen = find-shown es ∙ ap (find R key) seen where
    find-shown : (es : List (K × X)) → lookup (query key_shown R key) es ≡ find R key (shown key_shown es)
    find-shown [] = refl
    find-shown (e ∷ es) = ap (cond (is_eq (R key (key_shown e.0))) (Some e.1)) (find-shown es)

  put_step : (o : Ordering) (k : K) (v : X) (e : K × X) (es rest : List (K × X)) (all : List (Q × X)) → shown key_shown rest ≡ all
      → shown key_shown (match_ordering o ((k, v) ∷ e ∷ es) ((e.0, v) ∷ es) (e ∷ rest))
      ≡ by_order o ((key_shown k, v) ∷ shown key_shown (e ∷ es)) ((key_shown e.0, v) ∷ shown key_shown es) ((key_shown e.0, e.1) ∷ all)
  put_step Less k v e es rest all same = refl
  put_step Equal k v e es rest all same = refl
  put_step Greater k v e es rest all same = ap (λ l. (key_shown e.0, e.1) ∷ l) same

  put-shown : (k : K) (v : X) (es : List (K × X)) → shown key_shown (insert_entry (by_shown key_shown R) es k v) ≡ put R (key_shown k) v (shown key_shown es)
  put-shown k v [] = refl
  put-shown k v (e ∷ es) =
      put_step (R (key_shown k) (key_shown e.0)) k v e es (insert_entry (by_shown key_shown R) es k v) (put R (key_shown k) v (shown key_shown es)) (put-shown k v es)

  pub filled : (k : K) (v : X) (es new : List (K × X)) (m : List (Q × X)) → shown key_shown es ≡ m → new ≡ insert_entry (by_shown key_shown R) es k v
      → shown key_shown new ≡ put R (key_shown k) v m
  filled k v es new m seen is = ap (shown key_shown) is ∙ put-shown k v es ∙ ap (put R (key_shown k) v) seen

  below-shown : (k : K) (es : List (K × X)) → AllByRecursion (λ l. R (key_shown k) (key_shown l) ≡ Less) (keys_of es)
      → AllByRecursion (λ l. R (key_shown k) l ≡ Less) (keys_of (shown key_shown es))
  below-shown k [] h = tt
  below-shown k (e ∷ es) h = (h.0, below-shown k es h.1)

  sorted-shown : (es : List (K × X)) → IsOrdered (by_shown key_shown R) es → IsOrdered R (shown key_shown es)
  unfolding IsStrictlySortedBy
  sorted-shown [] h = tt
  sorted-shown (e ∷ es) h = (below-shown e.0 es h.0, sorted-shown es h.1)

  pub risen : (es : List (K × X)) (m : List (Q × X)) → shown key_shown es ≡ m → IsOrdered (by_shown key_shown R) es → IsOrdered R m
  risen es m seen rises = subst (IsOrdered R) seen (sorted-shown es rises)

  module _ (o : IsTotalOrder R) where
    none_below : (key : Q) (k : K) (es : List (K × X)) → R key (key_shown k) ≡ Less
        → AllByRecursion (λ l. R (key_shown k) (key_shown l) ≡ Less) (keys_of es) → lookup (query key_shown R key) es ≡ None
    none_below key k [] less h = refl
    none_below key k (e ∷ es) less h =
        ap (λ r. cond (is_eq r) (Some e.1) (lookup (query key_shown R key) es)) (o.trans key (key_shown k) (key_shown e.0) less h.0)
        ∙ none_below key k es less h.1

    -- a value that is written where a key stands is shown as one that is put
    set-shown : (key : Q) (v w : X) (es : List (K × X)) → IsOrdered (by_shown key_shown R) es → lookup (query key_shown R key) es ≡ Some v
        → shown key_shown (set_value (query key_shown R key) es w) ≡ put R key w (shown key_shown es)
    unfolding IsStrictlySortedBy
    set-shown key v w [] h there = cc
    set-shown key v w (e ∷ es) h there =
        elim (R key (key_shown e.0)) as (λ r. R key (key_shown e.0) ≡ r → cond (is_eq r) (Some e.1) (lookup (query key_shown R key) es) ≡ Some v
        → shown key_shown (cond (is_eq r) ((e.0, w) ∷ es) (e ∷ set_value (query key_shown R key) es w))
        ≡ by_order r ((key, w) ∷ shown key_shown (e ∷ es)) ((key_shown e.0, w) ∷ shown key_shown es) ((key_shown e.0, e.1) ∷ put R key w (shown key_shown es))) [
          | Less ↦ λ less there. let none : lookup (query key_shown R key) es ≡ None = none_below key e.0 es less h.0 in cc
          | Equal ↦ λ _ there. refl
          | Greater ↦ λ _ there. ap (λ l. (key_shown e.0, e.1) ∷ l) (set-shown key v w es h.1 there)
        ] refl there

    -- what was put through a reference stands at its key
    pub refilled : (key : Q) (v w : X) (es new : List (K × X)) (m : List (Q × X)) → shown key_shown es ≡ m → IsOrdered (by_shown key_shown R) es
        → Some v ≡ lookup (query key_shown R key) es → new ≡ set_value (query key_shown R key) es w → shown key_shown new ≡ put R key w m
    refilled key v w es new m seen rises there is = ap (shown key_shown) is ∙ set-shown key v w es rises (sym there) ∙ ap (put R key w) seen

  -- the same value put through a reference leaves the map as it was
  pub refilled_alike : (key : Q) (v w : X) (es new : List (K × X)) (m : List (Q × X)) → shown key_shown es ≡ m
      → Some v ≡ lookup (query key_shown R key) es → new ≡ set_value (query key_shown R key) es w → w ≡ v → shown key_shown new ≡ m
  refilled_alike key v w es new m seen there is alike =
      ap (shown key_shown) (is ∙ ap (set_value (query key_shown R key) es) alike ∙ set_value_same (query key_shown R key) es v (sym there)) ∙ seen

-- a key is shown as it is
abbrev itself : {K : Type 0} → K → K
itself k = k

-- the test for a key
abbrev at : {K : Type 0} → (K → K → Ordering) → K → K → Bool
at R key k = is_eq (R key k)

-- a map whose keys are shown as they are
module _ {K X : Type 0} (R : K → K → Ordering) where
  shown-same : (es : List (K × X)) → shown itself es ≡ es
  shown-same [] = refl
  shown-same (e ∷ es) = ap (λ l. e ∷ l) (shown-same es)

  pub own_found : (key : K) (es m : List (K × X)) → es ≡ m → lookup (at R key) es ≡ find R key m
  own_found key es m seen = found itself R key es m (shown-same es ∙ seen)

  pub own_filled : (k : K) (v : X) (es new m : List (K × X)) → es ≡ m → new ≡ insert_entry R es k v → new ≡ put R k v m
  own_filled k v es new m seen is = sym (shown-same new) ∙ filled itself R k v es new m (shown-same es ∙ seen) is

  pub own_refilled : IsTotalOrder R → (key : K) (v w : X) (es new m : List (K × X)) → es ≡ m → IsOrdered R es
      → Some v ≡ lookup (at R key) es → new ≡ set_value (at R key) es w → new ≡ put R key w m
  own_refilled o key v w es new m seen rises there is =
      sym (shown-same new) ∙ refilled itself R o key v w es new m (shown-same es ∙ seen) rises there is

  pub own_refilled_alike : (key : K) (v w : X) (es new m : List (K × X)) → es ≡ m
      → Some v ≡ lookup (at R key) es → new ≡ set_value (at R key) es w → w ≡ v → new ≡ m
  own_refilled_alike key v w es new m seen there is alike =
      sym (shown-same new) ∙ refilled_alike itself R key v w es new m (shown-same es ∙ seen) there is alike

-- one thing more at a key
module _ {K X : Type 0} (R : K → K → Ordering) where
  -- through a reference to those that stand there
  pub member_added : IsTotalOrder R → (key : K) (member : X) (v w : List X) (es new m : List (K × List X)) → es ≡ m → IsOrdered R es
      → Some v ≡ lookup (λ k. is_eq (R key k)) es → new ≡ set_value (λ k. is_eq (R key k)) es w → w ≡ v ++ member ∷ [] → new ≡ with_member R m key member
  member_added o key member v w es new m seen rises there is pushed =
      own_refilled R o key v w es new m seen rises there is
      ∙ ap (λ l. put R key l m) (pushed ∙ ap (λ found. unwrap_or found [] ++ member ∷ []) (there ∙ own_found R key es m seen))

  -- as the first one
  pub first_member : (key : K) (member : X) (w : List X) (es m between new : List (K × List X)) → es ≡ m → between ≡ m
      → None ≡ lookup (λ k. is_eq (R key k)) es → w ≡ member ∷ [] → new ≡ put R key w between → new ≡ with_member R m key member
  first_member key member w es m between new seen same absent pushed is =
      is ∙ ap (put R key w) same
      ∙ ap (λ l. put R key l m) (pushed ∙ ap (λ found. unwrap_or found [] ++ member ∷ []) (absent ∙ own_found R key es m seen))

-- the last thing at a key is taken
module _ {K X : Type 0} (R : K → K → Ordering) where
  shorter : (taken : Option X) (v w : List X) → MatchOption taken ((v ≡ []) × (w ≡ [])) (λ last. v ≡ w ++ last ∷ [])
      → (taken ≡ slice_get v (length v - 1)) × (w ≡ take (length v - 1) v)
  shorter None v w none = (ap (λ v. slice_get v (length v - 1)) (sym none.0), none.1 ∙ ap (λ v. take (length v - 1) v) (sym none.0))
  shorter (Some last) v w is =
      let count : length w ≡ length (w ++ last ∷ []) - 1 = omega (arith, length_push w last) in (
        sym (slice_get_append w last) ∙ ap (slice_get (w ++ last ∷ [])) count ∙ ap (λ v. slice_get v (length v - 1)) (sym is),
        sym (take-append_seam w (last ∷ [])) ∙ ap (λ n. take n (w ++ last ∷ [])) count ∙ ap (λ v. take (length v - 1) v) (sym is),
      )
    where
      slice_get_append : (w : List X) (last : X) → slice_get (w ++ last ∷ []) (length w) ≡ Some last
      slice_get_append [] last = refl
      slice_get_append (x ∷ w) last = slice_get_append w last

  -- through a reference to those that stand there
  pub member_taken : (key : K) (taken : Option X) (v w : List X) (es m : List (K × List X)) → es ≡ m → Some v ≡ lookup (λ k. is_eq (R key k)) es
      → MatchOption taken ((v ≡ []) × (w ≡ [])) (λ last. v ≡ w ++ last ∷ []) → taken ≡ last_member R m key
  member_taken key taken v w es m seen there popped =
      (shorter taken v w popped).0
      ∙ ap (λ found. slice_get (unwrap_or found []) (length (unwrap_or found []) - 1)) (there ∙ own_found R key es m seen)

  pub member_gone : IsTotalOrder R → (key : K) (taken : Option X) (v w : List X) (es new m : List (K × List X)) → es ≡ m → IsOrdered R es
      → Some v ≡ lookup (λ k. is_eq (R key k)) es → new ≡ set_value (λ k. is_eq (R key k)) es w
      → MatchOption taken ((v ≡ []) × (w ≡ [])) (λ last. v ≡ w ++ last ∷ []) → new ≡ without_last R m key
  member_gone o key taken v w es new m seen rises there is popped =
      own_refilled R o key v w es new m seen rises there is
      ∙ ap (λ l. put R key l m) (shorter taken v w popped).1
      ∙ ap (λ found. option_map_or (λ members. put R key (take (length members - 1) members) m) found m) (there ∙ own_found R key es m seen)

  -- where none stands there
  pub none_taken : (key : K) (es m : List (K × List X)) → es ≡ m → None ≡ lookup (λ k. is_eq (R key k)) es → None ≡ last_member R m key
  none_taken key es m seen absent = ap (λ found. slice_get (unwrap_or found []) (length (unwrap_or found []) - 1)) (absent ∙ own_found R key es m seen)

  pub none_gone : (key : K) (es new m : List (K × List X)) → es ≡ m → new ≡ m → None ≡ lookup (λ k. is_eq (R key k)) es → new ≡ without_last R m key
  none_gone key es new m seen same absent =
      same ∙ ap (λ found. option_map_or (λ members. put R key (take (length members - 1) members) m) found m) (absent ∙ own_found R key es m seen)
