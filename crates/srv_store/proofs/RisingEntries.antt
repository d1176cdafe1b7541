-- The newest entries and the ranges of a store stand in strict label order.
use Rattle.std.proofs.Common.{◌≡◌, ℤ, true, false, cond, T, List, [], ◌∷◌, ◌++◌, Option, Some, None, fold, inl, inr, refl}
use Rattle.std.specs.FinMap.Entries.{is_sorted, is_sorted-put}
use Rattle.std.specs.List.{AllByRecursion}
use Rattle.op_base.specs.declared.matcher.Matcher.{Matcher}
use Rattle.op_base.specs.declared.moment.Moment.{Moment}
use Rattle.op_base.specs.Labels.{Texts, labels_cmp}
use Rattle.srv_store.specs.declared.entry.Entry.{Entry}
use Rattle.srv_store.specs.LabelMaps.{LabelMap, value_of, with_value}
use Rattle.op_base.specs.Maps.{members_at, with_member}
use Rattle.srv_store.specs.Stores.{Point, Store, found_entry, has_value, is_newer, latest, newest, ranged, point_of, selected, window, with_newer, with_point}
use Rattle.srv_store.proofs.OrderLemmas.{labels_same, labels_total}
use Rattle.srv_store.proofs.RisingLemmas.{IsOneAt, Rises, all-put, rises-along, rises-entries, rises-flat_map}

-- the labels of an entry
abbrev pub labels_of : Entry → Texts
labels_of entry = entry.labels

-- an entry stands at its labels
abbrev pub IsPlaced : Texts × Entry → Type 0
IsPlaced found = labels_of found.1 ≡ found.0

-- entries that are found, in label order and each at its labels
pub record AreFound (found : LabelMap Entry) : Type 0 where
  pub sorted : T (is_sorted labels_cmp found)
  pub placed : AllByRecursion IsPlaced found

found-with_newer : (found : LabelMap Entry) (entry : Entry) → AreFound found → AreFound (with_newer found entry)
found-with_newer found entry h =
    elim (is_newer (value_of found entry.labels) entry) as (λ b. AreFound (cond b (with_value found entry.labels entry) found)) [
      | true ↦ record {
        sorted = is_sorted-put labels_cmp labels_total entry.labels entry found h.sorted;
        placed = all-put labels_cmp IsPlaced entry.labels entry found refl (λ other tied. labels_same entry.labels other tied) h.placed;
      }
      | false ↦ h
    ]

pub found-latest : (entries : List Entry) (found : LabelMap Entry) → AreFound found → AreFound (fold with_newer found entries)
found-latest [] found h = h
found-latest (entry ∷ entries) found h = found-latest entries (with_newer found entry) (found-with_newer found entry h)

one-found : (found : Texts × Entry) → IsOneAt labels_cmp labels_of (labels_of found.1) (found_entry found)
one-found found = elim (has_value found.1) as (λ b. IsOneAt labels_cmp labels_of (labels_of found.1) (cond b (found.1 ∷ []) [])) [
  | true ↦ inr (found.1, refl, refl)
  | false ↦ inl refl
]

-- the newest entries of a window
pub newest-rises : (store : Store) (matchers : List Matcher) (from to : ℤ) → Rises labels_cmp labels_of (newest store matchers from to)
newest-rises store matchers from to =
    let found = latest (window store matchers from to) in
    let h : AreFound found = found-latest (window store matchers from to) [] (record { sorted = tt; placed = tt }) in
    rises-flat_map labels_cmp (λ (e : Texts × Entry). labels_of e.1) labels_of found_entry one-found found
    (rises-along labels_cmp (λ (e : Texts × Entry). e.0) (λ (e : Texts × Entry). labels_of e.1) found h.placed (rises-entries labels_cmp found h.sorted))

sorted-point : (series : LabelMap (List Point)) (labels : Texts) (at : Moment) (value : Option ℤ) → T (is_sorted labels_cmp series)
    → T (is_sorted labels_cmp (fold (λ series point. with_member labels_cmp series labels point) series (point_of value at)))
sorted-point series labels at None h = h
sorted-point series labels at (Some value) h = is_sorted-put labels_cmp labels_total labels (members_at labels_cmp series labels ++ (at, value) ∷ []) series h

sorted-points : (entries : List Entry) (series : LabelMap (List Point)) → T (is_sorted labels_cmp series) → T (is_sorted labels_cmp (fold with_point series entries))
sorted-points [] series h = h
sorted-points (entry ∷ entries) series h = sorted-points entries (with_point series entry) (sorted-point series entry.labels entry.at entry.value h)

-- the samples of a window by their labels
pub ranged-sorted : (store : Store) (matchers : List Matcher) (from to : ℤ) → T (is_sorted labels_cmp (ranged store matchers from to))
ranged-sorted store matchers from to = sorted-points (selected store matchers from to) [] tt
