-- Objects, field by field, and maps of texts.
use Rattle.std.proofs.Common.{◌∙◌, ap, sym, get_or}
use Rattle.std.proofs.lemmas.List.{drop_all}
use Rattle.std.specs.Prelude.{ℕ, ◌+◌, ◌<◌, ◌≤◌, List, [], ◌∷◌, ◌++◌, ◌≡◌, length, drop, Option}
use Rattle.serde_json.specs.Data.{Data, Members, no_members, member}
use Rattle.op_base.specs.Labels.{Texts}
use Rattle.op_base.specs.Maps.{text_cmp, with_entry, put_all}
use Rattle.op_manifest.specs.declared.shape.Shape.{Shape}
use Rattle.op_manifest.specs.declared.tree.Tree.{Tree}
use Rattle.op_manifest.specs.Maps.{entry_of, entries_of}
use Rattle.op_manifest.specs.Shapes.{later}
use Rattle.op_manifest.specs.Trees.{data_of, members_in}
use Rattle.op_manifest.proofs.ItemLemmas.{left_of}
use Rattle.op_manifest.proofs.ShapeLemmas.{later_both, later_none}

-- all breaches of members, those of each member one after the other
module _ (each : List ℕ → Data → List Shape) (all : Members → List Shape)
    (first : (name : List ℕ) (d : Data) (ms : Members) → all (member name d ms) ≡ each name d ++ all ms) where
  -- the breaches of what is left, with those of its first field noted
  pub members_step : (fields : List (List ℕ × Tree)) (i : ℕ) (one : List ℕ × Tree) (name : List ℕ) (before after : Option Shape)
      → i < length fields → one ≡ get_or fields i one → name ≡ one.0 → after ≡ later before (each name (data_of one.1))
      → later before (all (members_in (drop i fields))) ≡ later after (all (members_in (drop (i + 1) fields)))
  members_step fields i one name before after within is named noted =
      let rest = members_in (drop (i + 1) fields) in
      ap (λ left. later before (all (members_in left))) (left_of fields i one within is)
      ∙ ap (later before) (first one.0 (data_of one.1) rest)
      ∙ later_both before (each one.0 (data_of one.1)) (all rest)
      ∙ ap (λ found. later found (all rest)) (ap (λ n. later before (each n (data_of one.1))) (sym named) ∙ sym noted)

-- no breach is left at the end
pub members_end : (all : Members → List Shape) → all no_members ≡ []
    → (fields : List (List ℕ × Tree)) (i : ℕ) (found : Option Shape) → length fields ≤ i → later found (all (members_in (drop i fields))) ≡ found
members_end all none fields i found end =
    ap (λ left. later found (all (members_in left))) (drop_all i fields end) ∙ ap (later found) none ∙ later_none found

-- entries that are put one after the other
put_both : (map these those : Texts) → put_all text_cmp map (these ++ those) ≡ put_all text_cmp (put_all text_cmp map these) those
put_both map [] those = λ i. put_all text_cmp map those
put_both map (entry ∷ these) those = put_both (with_entry map entry.0 entry.1) these those

-- the entries of what is left, with the first one put
pub entries_step : (fields : List (List ℕ × Tree)) (i : ℕ) (one : List ℕ × Tree) (name : List ℕ) (before after : Texts)
    → i < length fields → one ≡ get_or fields i one → name ≡ one.0 → after ≡ put_all text_cmp before (entry_of name (data_of one.1))
    → put_all text_cmp before (entries_of (members_in (drop i fields))) ≡ put_all text_cmp after (entries_of (members_in (drop (i + 1) fields)))
entries_step fields i one name before after within is named put =
    let rest = entries_of (members_in (drop (i + 1) fields)) in
    ap (λ left. put_all text_cmp before (entries_of (members_in left))) (left_of fields i one within is)
    ∙ put_both before (entry_of one.0 (data_of one.1)) rest
    ∙ ap (λ map. put_all text_cmp map rest) (ap (λ n. put_all text_cmp before (entry_of n (data_of one.1))) (sym named) ∙ sym put)

-- no entry is left at the end
pub entries_end : (map : Texts) (fields : List (List ℕ × Tree)) (i : ℕ) → length fields ≤ i → put_all text_cmp map (entries_of (members_in (drop i fields))) ≡ map
entries_end map fields i end = ap (λ left. put_all text_cmp map (entries_of (members_in left))) (drop_all i fields end)
