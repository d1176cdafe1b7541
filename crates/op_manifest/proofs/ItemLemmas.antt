-- Lists of trees, item by item.
use Rattle.std.proofs.Common.{◌∙◌, ap, sym, append-nil, append_assoc}
use Rattle.std.specs.Prelude.{ℕ, ◌+◌, ◌<◌, ◌≤◌, List, [], ◌∷◌, ◌++◌, ◌≡◌, length, drop, Option}
use Rattle.std.proofs.Common.{get_or}
use Rattle.std.proofs.lemmas.List.{drop_more, drop_all}
use Rattle.serde_json.specs.Data.{Data}
use Rattle.op_manifest.specs.declared.shape.Shape.{Shape}
use Rattle.op_manifest.specs.declared.tree.Tree.{Tree}
use Rattle.op_manifest.specs.Checks.{Check, items_from}
use Rattle.op_manifest.specs.Shapes.{path_at, later}
use Rattle.op_manifest.specs.Trees.{data_of, items_in}
use Rattle.op_manifest.specs.Values.{each_of}
use Rattle.op_manifest.proofs.ShapeLemmas.{later_both, later_none}

-- what is left, from its first item on
pub left_of : {A : Type 0} (items : List A) (i : ℕ) (item : A) → i < length items → item ≡ get_or items i item
    → drop i items ≡ item ∷ drop (i + 1) items
left_of items i item within is = drop_more items i item within ∙ ap (λ x. x ∷ drop (i + 1) items) (sym is)

-- the breaches of what is left, with those of its first item noted
pub wrongs_step : (check : Check) (path here : List ℕ) (items : List Tree) (i : ℕ) (item : Tree) (before after : Option Shape)
    → i < length items → item ≡ get_or items i item → here ≡ path_at path i → after ≡ later before (check here (data_of item))
    → later before (items_from check path i (items_in (drop i items))) ≡ later after (items_from check path (i + 1) (items_in (drop (i + 1) items)))
wrongs_step check path here items i item before after within is at noted =
    let rest = items_from check path (i + 1) (items_in (drop (i + 1) items)) in
    ap (λ left. later before (items_from check path i (items_in left))) (left_of items i item within is)
    ∙ later_both before (check (path_at path i) (data_of item)) rest
    ∙ ap (λ found. later found rest) (ap (λ p. later before (check p (data_of item))) (sym at) ∙ sym noted)

-- no breach is left at the end
pub wrongs_end : (check : Check) (path : List ℕ) (items : List Tree) (i : ℕ) (found : Option Shape) → length items ≤ i
    → later found (items_from check path i (items_in (drop i items))) ≡ found
wrongs_end check path items i found end =
    ap (λ left. later found (items_from check path i (items_in left))) (drop_all i items end) ∙ later_none found

module _ {X : Type 0} (of : Data → X) where
  -- the items so far and those that are left, with one more read
  pub items_step : (all more : List X) (items : List Tree) (i : ℕ) (item : Tree) (read : X)
      → i < length items → item ≡ get_or items i item → read ≡ of (data_of item) → more ≡ all ++ read ∷ []
      → all ++ each_of of (items_in (drop i items)) ≡ more ++ each_of of (items_in (drop (i + 1) items))
  items_step all more items i item read within is as_read pushed =
      let rest = each_of of (items_in (drop (i + 1) items)) in
      ap (λ left. all ++ each_of of (items_in left)) (left_of items i item within is)
      ∙ ap (λ x. all ++ x ∷ rest) (sym as_read)
      ∙ sym (append_assoc all (read ∷ []) rest)
      ∙ ap (λ l. l ++ rest) (sym pushed)

  -- none is left at the end
  pub items_end : (all : List X) (items : List Tree) (i : ℕ) → length items ≤ i → all ++ each_of of (items_in (drop i items)) ≡ all
  items_end all items i end = ap (λ left. all ++ each_of of (items_in left)) (drop_all i items end) ∙ append-nil all
