-- What an ordered map of owned texts shows: its keys and values in order, and inner maps that are filled.
use Rattle.std.proofs.Common.{◌≡◌, ℕ, Bool, List, [], ◌∷◌, map, Some, None, String, string_bytes, unwrap_or, refl, ap, sym, ◌∙◌, ◌++◌, append-nil}
use Rattle.std.specs.declared.alloc.Global.{Global}
use Rattle.std.specs.Ordering.{nat_cmp, is_eq}
use Rattle.std.specs.Cmp.Lexicographic.{slice_cmp, nat_list_cmp_total}
use Rattle.std.specs.FinMap.{find, put}
use Rattle.std.specs.Map.{lookup, set_value}
use Rattle.std.specs.String.{string_cmp}
use Rattle.op_base.specs.Maps.{Map, IsOrdered, keys_of, values_of, with_entry, with_inner}
use Rattle.op_base.proofs.MapLemmas as lemma

-- owned texts, each with something
abbrev Owned : Type 0 → Type 0
Owned X = List (String Global × X)

-- a query compares to owned texts as to their bytes
abbrev query : List ℕ → String Global → Bool
query key k = is_eq (slice_cmp nat_cmp key (string_bytes k))

module _ {X : Type 0} where
  abbrev shown : Owned X → Map X
  shown es = map (λ entry. (string_bytes entry.0, entry.1)) es

  keys-shown : (es : Owned X) → map (λ k. string_bytes k) (map (λ e. e.0) es) ≡ keys_of (shown es)
  keys-shown [] = refl
  keys-shown (e ∷ es) = ap (λ ks. string_bytes e.0 ∷ ks) (keys-shown es)

  pub listed : (es : Owned X) (m : Map X) (keys : List (List ℕ)) (given left : List (String Global)) → shown es ≡ m
      → given ≡ map (λ e. e.0) es → map (λ k. string_bytes k) given ≡ keys ++ map (λ k. string_bytes k) left → left ≡ [] → keys ≡ keys_of m
  listed es m keys given left seen all so_far done =
      sym (append-nil keys) ∙ ap (λ l. keys ++ map (λ k. string_bytes k) l) (sym done) ∙ sym so_far
      ∙ ap (map (λ k. string_bytes k)) all ∙ keys-shown es ∙ ap keys_of seen

  values-shown : (es : Owned X) → map (λ e. e.1) es ≡ values_of (shown es)
  values-shown [] = refl
  values-shown (e ∷ es) = ap (λ vs. e.1 ∷ vs) (values-shown es)

  pub drained : (es : Owned X) (m : Map X) (values given left : List X) → shown es ≡ m → given ≡ map (λ e. e.1) es → given ≡ values ++ left → left ≡ []
      → values ≡ values_of m
  drained es m values given left seen all so_far done =
      sym (append-nil values) ∙ ap (λ l. values ++ l) (sym done) ∙ sym so_far ∙ all ∙ values-shown es ∙ ap values_of seen

  -- an inner map was filled through a reference
  pub filled_inner : (key outer inner : List ℕ) (value : X) (v w : Map X) (es new : Owned (Map X)) (m : Map (Map X)) → key ≡ outer
      → map (λ entry. (string_bytes entry.0, entry.1)) es ≡ m → IsOrdered string_cmp es → Some v ≡ lookup (query key) es
      → new ≡ set_value (query key) es w → w ≡ with_entry v inner value → map (λ entry. (string_bytes entry.0, entry.1)) new ≡ with_inner m outer inner value
  filled_inner key outer inner value v w es new m same seen rises there is filled =
      lemma.refilled string_bytes (slice_cmp nat_cmp) nat_list_cmp_total key v w es new m seen rises there is
      ∙ ap (λ x. put (slice_cmp nat_cmp) key x m)
      (filled ∙ ap (λ o. with_entry (unwrap_or o []) inner value) (there ∙ lemma.found string_bytes (slice_cmp nat_cmp) key es m seen))
      ∙ ap (λ k. with_inner m k inner value) same

  -- an inner map was added
  pub added_inner : (key outer inner : List ℕ) (value : X) (w : Map X) (es : Owned (Map X)) (m new : Map (Map X)) → key ≡ outer
      → map (λ entry. (string_bytes entry.0, entry.1)) es ≡ m → None ≡ lookup (query key) es → w ≡ with_entry [] inner value → new ≡ with_entry m outer w
      → new ≡ with_inner m outer inner value
  added_inner key outer inner value w es m new same seen absent filled is =
      is ∙ ap (λ x. with_entry m outer x) (filled ∙ ap (λ o. with_entry (unwrap_or o []) inner value)
      (absent ∙ lemma.found string_bytes (slice_cmp nat_cmp) key es m seen ∙ ap (λ k. find (slice_cmp nat_cmp) k m) same))
