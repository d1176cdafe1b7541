-- Stores of samples: lists of entries, and their filters. After Prometheus on staleness.
use Rattle.std.specs.Prelude.{◌≡◌, ℕ, ℤ, List, [], ◌∷◌, ◌++◌, Bool, true, ◌&&◌, Option, Some, None, filter, fold, is_some, map, int_le, int_lt, if◌then◌else◌, bytes_eq}
use Rattle.std.specs.Cmp.Lexicographic.{pointwise}
use Rattle.std.specs.List.{list_all, list_any, flat_map}
use Rattle.std.specs.declared.cmp.Ordering.{Ordering}
use Rattle.std.specs.Ordering.{int_cmp, on, then_cmp}
use Rattle.op_base.specs.declared.matcher.Matcher.{Matcher}
use Rattle.op_base.specs.declared.moment.Moment.{Moment}
use Rattle.op_base.specs.Labels.{Texts, entry_eq, labels_cmp}
use Rattle.op_base.specs.declared.label_names.TheConstants.{NAMESPACE_LABEL}
use Rattle.op_base.specs.Maps.{in_order, with_member}
use Rattle.op_base.specs.Matchers.{holds_on, label_value}
use Rattle.srv_store.specs.declared.entry.Entry.{Entry}
use Rattle.srv_store.specs.LabelMaps.{LabelMap, value_of, with_value}

-- the entries in the order in which they came
abbrev pub Store : Type 0
Store = List Entry

-- equal label sets
abbrev pub same_labels : Texts → Texts → Bool
same_labels these those = pointwise entry_eq these those

-- equal moments
abbrev pub same_moment : Moment → Moment → Bool
same_moment this that = int_le this.0 that.0 && int_le that.0 this.0

-- an entry of the same labels and moment
abbrev pub is_twin : Entry → Entry → Bool
is_twin this that = same_moment this.at that.at && same_labels this.labels that.labels

-- the store has an entry of these labels and this moment
abbrev pub has_twin : Store → Entry → Bool
has_twin store entry = list_any (is_twin entry) store

-- the store with the entry; a second one of the same labels and moment is ignored
abbrev pub with_one : Store → Entry → Store
with_one store entry = if has_twin store entry then store else store ++ entry ∷ []

-- those of the entries that a store takes, one after the other
abbrev pub fresh : Store → List Entry → List Entry
fresh store [] = []
fresh store (entry ∷ entries) =
    if has_twin store entry then fresh store entries else entry ∷ fresh (store ++ entry ∷ []) entries

-- the store with entries
abbrev pub with_all : Store → List Entry → Store
with_all store entries = store ++ fresh store entries

-- a store has further entries behind those of another
abbrev pub Grows : Store → Store → Type 0
Grows old new = (more : List Entry) × (new ≡ old ++ more)

-- of what one store has behind another, a first part was added
abbrev pub AddsPrefix : Store → Store → Store → Type 0
AddsPrefix old new all = Grows old new × Grows new all

-- all matchers hold on the labels
abbrev pub all_hold : List Matcher → Texts → Bool
all_hold matchers labels = list_all (λ matcher. holds_on matcher labels) matchers

-- a moment from one to another, both included
abbrev pub is_within : ℤ → ℤ → Moment → Bool
is_within from to at = int_le from at.0 && int_le at.0 to

-- the entries on whose labels all matchers hold, with moments from one to another
abbrev pub window : Store → List Matcher → ℤ → ℤ → List Entry
window store matchers from to =
    filter (λ entry. is_within from to entry.at && all_hold matchers entry.labels) store

-- an entry stands in for none, and for an earlier one
abbrev pub is_newer : Option Entry → Entry → Bool
is_newer None entry = true
is_newer (Some found) entry = int_lt found.at.0 entry.at.0

-- what was found, with the entry where it is a newer one of its labels
abbrev pub with_newer : LabelMap Entry → Entry → LabelMap Entry
with_newer found entry =
    if is_newer (value_of found entry.labels) entry then with_value found entry.labels entry else found

-- of each label set its entry of the greatest moment
abbrev pub latest : List Entry → LabelMap Entry
latest entries = fold with_newer [] entries

-- an entry with a value; a stale one has none
abbrev pub has_value : Entry → Bool
has_value entry = is_some entry.value

-- a vector: label sets with values, in label order
abbrev pub Vector : Type 0
Vector = LabelMap ℤ

-- an entry, where it isn't stale
abbrev pub unless_stale : Entry → List Entry
unless_stale entry = if has_value entry then entry ∷ [] else []

-- the same of the entry that was found for a label set
abbrev pub found_entry : Texts × Entry → List Entry
found_entry found = unless_stale found.1

-- of each label set the newest entry of a window, where that isn't stale, in label order
abbrev pub newest : Store → List Matcher → ℤ → ℤ → List Entry
newest store matchers from to = flat_map found_entry (latest (window store matchers from to))

-- where an entry stands: at its labels, and there at its moment
abbrev pub Place : Type 0
Place = Texts × Moment

-- by labels, and of equal labels by moment
abbrev pub place_cmp : Place → Place → Ordering
place_cmp = then_cmp (on (λ (place : Place). place.0) labels_cmp) (on (λ (place : Place). place.1.0) int_cmp)

-- an entry with its labels and moment
abbrev pub at_place : Entry → Place × Entry
at_place entry = ((entry.labels, entry.at), entry)

-- the entry that was put with its place
abbrev pub entry_at : Place × Entry → Entry
entry_at placed = placed.1

-- entries by labels and then by moments
abbrev pub ordered : List Entry → List Entry
ordered entries = map entry_at (in_order place_cmp (map at_place entries))

-- the entries of a window, by labels and then by moments
abbrev pub selected : Store → List Matcher → ℤ → ℤ → List Entry
selected store matchers from to = ordered (window store matchers from to)

-- a moment and the value at it
abbrev pub Point : Type 0
Point = Moment × ℤ

-- the point at the moment, where there is a value
abbrev pub point_of : Option ℤ → Moment → List Point
point_of None at = []
point_of (Some value) at = (at, value) ∷ []

-- one point more of a label set, where the entry isn't stale
abbrev pub with_point : LabelMap (List Point) → Entry → LabelMap (List Point)
with_point series entry =
    fold (λ series point. with_member labels_cmp series entry.labels point) series (point_of entry.value entry.at)

-- of each label set in a window its points in the order of their moments, without stale entries
abbrev pub ranged : Store → List Matcher → ℤ → ℤ → LabelMap (List Point)
ranged store matchers from to = fold with_point [] (selected store matchers from to)

-- the labels name the namespace
abbrev pub owns : List ℕ → Texts → Bool
owns namespace labels = bytes_eq namespace (label_value labels NAMESPACE_LABEL.now)

-- the entries of one namespace
abbrev pub of_namespace : List ℕ → Store → Store
of_namespace namespace store = filter (λ entry. owns namespace entry.labels) store
