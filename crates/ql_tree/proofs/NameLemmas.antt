-- A table of names answers as the list of them does.
use Rattle.std.proofs.Common.{◌≡◌, ◌+◌, ◌<◌, ℕ, Bool, true, false, List, ◌||◌, Option, Some, None, cond, get_or, length, take, refl, ap, sym, ◌∙◌}
use Rattle.std.specs.Cmp.Lexicographic.{nat_list_cmp_total}
use Rattle.std.specs.FinMap.Entries.{find-put}
use Rattle.std.specs.List.{list_any}
use Rattle.std.specs.Option.{is_some}
use Rattle.std.specs.Str.{bytes_eq}
use Rattle.std.proofs.lemmas.List.Folds.{list_any_more}
use Rattle.std.proofs.lemmas.Map.Text.{is_eq-slice_cmp}
use Rattle.op_base.specs.Maps.{Map, text_cmp, value_at, with_entry}

module _ {X : Type 0} where
  either : (b : Bool) (value : X) (found : Option X) → is_some (cond b (Some value) found) ≡ (is_some found || b)
  either true value None = refl
  either true value (Some other) = refl
  either false value None = refl
  either false value (Some other) = refl

  -- a name that is put is there beside those before
  put_beside : (name label : List ℕ) (value : X) (names : Map X) → is_some (value_at (with_entry names label value) name) ≡ (is_some (value_at names name) || bytes_eq name label)
  put_beside name label value names =
      ap is_some (find-put text_cmp nat_list_cmp_total name label value names)
      ∙ ap (λ b. is_some (cond b (Some value) (value_at names name))) (is_eq-slice_cmp name label)
      ∙ either (bytes_eq name label) value (value_at names name)

  -- the names with the next label are the labels with it
  pub named_next : (labels : List (List ℕ)) (i : ℕ) (label key : List ℕ) (value : X) (names next : Map X) → i < length labels → label ≡ get_or labels i label
      → key ≡ label → next ≡ with_entry names key value → ((name : List ℕ) → is_some (value_at names name) ≡ list_any (bytes_eq name) (take i labels))
      → (name : List ℕ) → is_some (value_at next name) ≡ list_any (bytes_eq name) (take (i + 1) labels)
  named_next labels i label key value names next h is same put before = λ name.
      ap (λ table. is_some (value_at table name)) put
      ∙ put_beside name key value names
      ∙ ap (λ b. b || bytes_eq name key) (before name)
      ∙ ap (λ l. list_any (bytes_eq name) (take i labels) || bytes_eq name l) (same ∙ is)
      ∙ sym (list_any_more (bytes_eq name) labels i label h)
