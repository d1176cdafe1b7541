-- The index of a store: for each label the numbers of the label sets that have it.
-- Only private contracts, the invariants of types and proofs use these words.
use Rattle.std.specs.Prelude.{◌≡◌, ℕ, ◌<◌, Bool, false, true, List, [], ◌∷◌, ◌++◌, bytes_eq, filter, if◌then◌else◌, length, map, nat_eq}
use Rattle.std.specs.List.{list_all, list_any, range_with_len}
use Rattle.std.specs.Ordering.{eq_by_cmp}
use Rattle.op_base.specs.declared.matcher.MatchOp.{MatchOp}
use Rattle.op_base.specs.declared.matcher.MatchOp.TheVariants.{Eq, Ne, Re, Nr}
use Rattle.op_base.specs.declared.matcher.Matcher.{Matcher}
use Rattle.op_base.specs.Labels.{Texts, labels_cmp, labels_with}
use Rattle.op_base.specs.Matchers.{label_value}
use Rattle.op_base.specs.Maps.{members_at}
use Rattle.srv_store.specs.LabelMaps.{LabelMap}
use Rattle.srv_store.specs.Stores.{all_hold}
use Rattle.srv_store.specs.Runs.{key_at}

-- numbers by labels, each of which stands as a label set of its own
abbrev pub Index : Type 0
Index = LabelMap (List ℕ)

-- the numbers that an index lists at a label
abbrev pub listed_at : Index → List ℕ → List ℕ → List ℕ
listed_at index name value = members_at labels_cmp index (labels_with [] name value)

-- a label set has the label
abbrev pub has_label : List ℕ → List ℕ → Texts → Bool
has_label name value labels = bytes_eq value (label_value labels name)

-- the numbers of the label sets that pass a test, rising
abbrev pub numbers_where : (Texts → Bool) → List Texts → List ℕ
numbers_where test keys = filter (λ n. test (key_at keys n)) (range_with_len 0 (length keys))

-- the index is the inverse of the labels: at each label it lists the numbers of the label sets that have it, and no others
abbrev pub IsIndex : List Texts → Index → Type 0
IsIndex keys index = (name value : List ℕ) → 0 < length value → listed_at index name value ≡ numbers_where (has_label name value) keys

-- an index lists at each label what another lists there
abbrev pub ListsSame : Index → Index → Type 0
ListsSame old new = (label : Texts) → members_at labels_cmp new label ≡ members_at labels_cmp old label

-- an index lists a number more at each of some labels
abbrev pub ListsAt : Index → Index → List Texts → ℕ → Type 0
ListsAt old new labels n = (label : Texts)
    → members_at labels_cmp new label ≡ members_at labels_cmp old label ++ map (λ _. n) (filter (eq_by_cmp labels_cmp label) labels)

-- an index lists a number more at each label of a label set
abbrev pub ListsLabels : Index → Index → Texts → ℕ → Type 0
ListsLabels old new labels n = (name value : List ℕ) → 0 < length value
    → listed_at new name value ≡ listed_at old name value ++ (if has_label name value labels then n ∷ [] else [])

-- the labels of a label set, each as a label set of its own
abbrev pub single_labels : Texts → List Texts
single_labels labels = map (λ label. labels_with [] label.0 label.1) labels

-- `=` with a value that isn't empty asks for a label: a label set without it doesn't pass
abbrev pub asks_for : MatchOp → List ℕ → Bool
asks_for Eq [] = false
asks_for Eq (b ∷ value) = true
asks_for Ne value = false
asks_for Re value = false
asks_for Nr value = false

-- a matcher asks for a label
abbrev pub asks : Matcher → Bool
asks matcher = asks_for matcher.op matcher.value

-- all matchers that ask for a label hold on the labels
abbrev pub asked_hold : List Matcher → Texts → Bool
asked_hold matchers labels = all_hold (filter asks matchers) labels

-- what an index lists at the label that a matcher asks for, if it asks for one
abbrev pub asked_list : Index → Matcher → List (List ℕ)
asked_list index matcher = if asks matcher then listed_at index matcher.name matcher.value ∷ [] else []

-- the number stands in all lists
abbrev pub stands_in_all : List (List ℕ) → ℕ → Bool
stands_in_all lists n = list_all (list_any (nat_eq n)) lists
