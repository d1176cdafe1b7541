-- Label sets, after the Prometheus data model, and the tags of objects, after Kubernetes: finite
-- maps from names to texts, in the order of the names.
use Rattle.std.specs.Prelude.{◌≡◌, ℕ, ◌<◌, ◌==◌, Bool, true, List, [], ◌∷◌, ◌++◌, fold, length, slice_index_or}
use Rattle.std.specs.List.{AllByRecursion}
use Rattle.std.specs.declared.cmp.Ordering.{Ordering}
use Rattle.std.specs.Ordering.{nat_cmp, on, then_cmp, eq_of_both, eq_by_cmp}
use Rattle.std.specs.Cmp.{both_tied}
use Rattle.std.specs.Cmp.Lexicographic.{pointwise, slice_cmp, lists_ties, texts_ties, bytes_decides}
use Rattle.std.specs.Hash as fed
use Rattle.op_base.specs.Maps.{Map, IsMap, with_entry, without_entry}

-- names, each with its text
abbrev pub Texts : Type 0
Texts = Map (List ℕ)

-- a label set: the names strictly rise, and no value is empty
abbrev pub IsLabels : Texts → Type 0
IsLabels labels = IsMap labels × AllByRecursion (λ entry. 0 < length entry.1) labels

-- the labels with the name mapped to the value, or without the name where the value is empty
abbrev pub labels_with : Texts → List ℕ → List ℕ → Texts
labels_with labels name [] = without_entry labels name
labels_with labels name (b ∷ value) = with_entry labels name (b ∷ value)

-- the labels with others put over them, one after the other; an empty text removes a label
abbrev pub labels_with_all : Texts → Texts → Texts
labels_with_all labels others = fold (λ put other. labels_with put other.0 other.1) labels others

-- the entry at a place in the order of names
abbrev pub entry_in : Texts → ℕ → List ℕ × List ℕ
entry_in texts place = slice_index_or texts place ([], [])

-- its name
abbrev pub name_in : Texts → ℕ → List ℕ
name_in texts place = let entry = entry_in texts place in entry.0

-- its text
abbrev pub text_in : Texts → ℕ → List ℕ
text_in texts place = let entry = entry_in texts place in entry.1

-- equal entries
abbrev pub entry_eq : List ℕ × List ℕ → List ℕ × List ℕ → Bool
entry_eq = eq_of_both (on (λ entry. entry.0) (pointwise ◌==◌)) (on (λ entry. entry.1) (pointwise ◌==◌))

-- an entry before another: by name, then by value
abbrev pub entry_cmp : List ℕ × List ℕ → List ℕ × List ℕ → Ordering
entry_cmp = then_cmp (on (λ entry. entry.0) (slice_cmp nat_cmp)) (on (λ entry. entry.1) (slice_cmp nat_cmp))

-- label sets are ordered as their lists of entries
abbrev pub labels_cmp : Texts → Texts → Ordering
labels_cmp = slice_cmp entry_cmp

-- equal entries are those of which neither stands before the other
pub entry_ties : (this that : List ℕ × List ℕ) → entry_eq this that ≡ eq_by_cmp entry_cmp this that
entry_ties this that =
    both_tied _ _ (slice_cmp nat_cmp this.0 that.0) (slice_cmp nat_cmp this.1 that.1) (texts_ties this.0 that.0) (texts_ties this.1 that.1)

-- equal label sets are those of which neither stands before the other
pub labels_ties : (these those : Texts) → pointwise entry_eq these those ≡ eq_by_cmp labels_cmp these those
labels_ties = lists_ties entry_cmp entry_ties

-- what an entry gives a hasher: its two texts
abbrev pub entry_fed : List ℕ × List ℕ → fed.HashWrites
entry_fed entry = fed.str entry.0 ++ fed.str entry.1

-- what a label set gives a hasher: its entries
abbrev pub labels_fed : Texts → fed.HashWrites
labels_fed = fed.slice entry_fed

-- equal entries give a hasher the same
pub entry_fed_alike : (this that : List ℕ × List ℕ) → entry_eq this that ≡ true → entry_fed this ≡ entry_fed that
entry_fed_alike = (fed.and-Alike
    (fed.on_Alike (λ (entry : List ℕ × List ℕ). entry.0) (fed.same_Alike fed.str bytes_decides))
    (fed.on_Alike (λ (entry : List ℕ × List ℕ). entry.1) (fed.same_Alike fed.str bytes_decides))).fed

-- equal label sets give a hasher the same
pub labels_fed_alike : (these those : Texts) → pointwise entry_eq these those ≡ true → labels_fed these ≡ labels_fed those
labels_fed_alike = (fed.items_Alike (fed.and-Alike
    (fed.on_Alike (λ (entry : List ℕ × List ℕ). entry.0) (fed.same_Alike fed.str bytes_decides))
    (fed.on_Alike (λ (entry : List ℕ × List ℕ). entry.1) (fed.same_Alike fed.str bytes_decides)))).fed
