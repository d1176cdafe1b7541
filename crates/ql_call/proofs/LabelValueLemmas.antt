-- The value of a label after labels were put and taken away.
use Rattle.std.proofs.Common.{◌≡◌, ℕ, Bool, true, false, cond, not, ◌||◌, List, [], ◌∷◌, Some, None, fold, bytes_eq, unwrap_or, refl, sym, ap, ◌∙◌}
use Rattle.std.specs.Cmp.{alike_right}
use Rattle.std.specs.Cmp.Lexicographic.{slice_cmp, nat_list_cmp_total, texts_ties, bytes_decides, nat_list_eq_equiv}
use Rattle.std.specs.FinMap.Entries.{find-put, find-where_key}
use Rattle.std.specs.Ordering.{nat_cmp, eq_by_cmp, is_eq}
use Rattle.op_base.specs.Maps.{value_at, without_entry}
use Rattle.op_base.specs.Labels.{Texts, labels_with}
use Rattle.op_base.specs.Matchers.{label_value}
use Rattle.ql_call.specs.Elements.{without}
use Rattle.ql_call.specs.LabelsByName.{LabelsByName, is_among, unless_empty}

cond-same : {X : Type 0} (b : Bool) (x : X) → cond b x x ≡ x
cond-same true x = refl
cond-same false x = refl

some-or-empty : (value : List ℕ) → unwrap_or (unless_empty value) [] ≡ value
some-or-empty [] = refl
some-or-empty (b ∷ value) = refl

module _ (name : List ℕ) where
  -- at a name, after another was taken away
  pub without-at : (labels : Texts) (other : List ℕ) → value_at (without_entry labels other) name ≡ cond (bytes_eq name other) None (value_at labels name)
  without-at labels other =
      find-where_key (slice_cmp nat_cmp) (λ x. not (eq_by_cmp (slice_cmp nat_cmp) other x)) name
      (λ x tied. ap (λ r. not (is_eq r)) (sym (alike_right nat_list_cmp_total name x other tied))) labels
      ∙ turned (eq_by_cmp (slice_cmp nat_cmp) other name)
      ∙ ap (λ b. cond b None (value_at labels name)) (sym (texts_ties other name) ∙ nat_list_eq_equiv.symm other name)
    where
      turned : (b : Bool) → cond (not b) (value_at labels name) None ≡ cond b None (value_at labels name)
      turned true = refl
      turned false = refl

  -- and after a value was put
  pub with-at : (labels : Texts) (other value : List ℕ) → value_at (labels_with labels other value) name ≡ cond (bytes_eq name other) (unless_empty value) (value_at labels name)
  with-at labels other [] = without-at labels other
  with-at labels other (b ∷ value) =
      find-put (slice_cmp nat_cmp) nat_list_cmp_total name other (b ∷ value) labels
      ∙ ap (λ t. cond t (Some (b ∷ value)) (value_at labels name)) (sym (texts_ties name other))

  value-with : (labels : Texts) (other value : List ℕ) → label_value (labels_with labels other value) name ≡ cond (bytes_eq name other) value (label_value labels name)
  value-with labels other value =
      ap (λ found. unwrap_or found []) (with-at labels other value)
      ∙ elim (bytes_eq name other) as (λ b. unwrap_or (cond b (unless_empty value) (value_at labels name)) [] ≡ cond b value (label_value labels name)) [
        | true ↦ some-or-empty value
        | false ↦ refl
      ]

  -- labels that are put for a list of names have the source's values at them
  value-put : (source : Texts) (names : List (List ℕ)) (kept : Texts)
      → label_value (fold (λ kept n. labels_with kept n (label_value source n)) kept names) name ≡ cond (is_among names name) (label_value source name) (label_value kept name)
  value-put source [] kept = refl
  value-put source (n ∷ names) kept =
      value-put source names (labels_with kept n (label_value source n))
      ∙ ap (cond (is_among names name) (label_value source name)) (value-with kept n (label_value source n))
      ∙ elim (bytes_eq name n) as (λ b. bytes_eq name n ≡ b
      → cond (is_among names name) (label_value source name) (cond b (label_value source n) (label_value kept name))
      ≡ cond (b || is_among names name) (label_value source name) (label_value kept name)) [
        | true ↦ λ same.
            ap (λ m. cond (is_among names name) (label_value source name) (label_value source m)) (sym ((bytes_decides name n).0 same))
            ∙ cond-same (is_among names name) (label_value source name)
        | false ↦ λ _. refl
      ] refl

  -- labels that are taken away for a list of names have none at them
  value-left : (names : List (List ℕ)) (labels : Texts) → label_value (without names labels) name ≡ cond (is_among names name) [] (label_value labels name)
  value-left [] labels = refl
  value-left (n ∷ names) labels =
      value-left names (without_entry labels n)
      ∙ ap (λ found. cond (is_among names name) [] (unwrap_or found [])) (without-at labels n)
      ∙ elim (bytes_eq name n) as (λ b. cond (is_among names name) [] (unwrap_or (cond b None (value_at labels name)) [])
      ≡ cond (b || is_among names name) [] (label_value labels name)) [
        | true ↦ cond-same (is_among names name) []
        | false ↦ refl
      ]

pub labels-by-name : LabelsByName
labels-by-name = record {
  picked = λ names labels name. value-put name labels names [];
  left = λ names labels name. value-left name names labels;
  included = λ names one many name. value-put name one names many;
}
