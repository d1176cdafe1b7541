-- What a store keeps, and what its look-ups answer, without their steps. The records are the contracts of the calls
-- in `src/laws.rt`.
use Rattle.std.specs.Prelude.{ℤ, Bool, not, ◌&&◌, ◌||◌, ◌↔◌, List, filter, int_le, map}
use Rattle.std.specs.List.{Contains, IsDistinct, list_all}
use Rattle.std.specs.List.Sorted.{IsPermutation, IsStrictlySortedBy}
use Rattle.op_base.specs.declared.matcher.Matcher.{Matcher}
use Rattle.op_base.specs.Labels.{labels_cmp}
use Rattle.srv_store.specs.declared.entry.Entry.{Entry}
use Rattle.srv_store.specs.Stores.{Store, Place, has_value, is_twin, newest, place_cmp, same_labels, selected, window}

-- no two entries are of the same labels and moment
abbrev pub IsTwinless : Store → Type 0
IsTwinless store = IsDistinct is_twin store

-- where an entry stands
abbrev pub place_of : Entry → Place
place_of entry = (entry.labels, entry.at)

-- entries strictly rise by labels, and those of equal labels by moments
abbrev pub RisesByPlace : List Entry → Type 0
RisesByPlace entries = IsStrictlySortedBy place_cmp (map place_of entries)

-- the entries that are selected of a store are those of the window, each once, strictly by labels and then by moments
pub record SelectedAreTheWindow : Type 0 where
  pub rises : (store : Store) (matchers : List Matcher) (from to : ℤ) → RisesByPlace (selected store matchers from to)
  pub permutes : (store : Store) (matchers : List Matcher) (from to : ℤ) → IsTwinless store
      → IsPermutation (window store matchers from to) (selected store matchers from to)

-- no entry of these labels is of a later moment
abbrev pub is_latest_of : List Entry → Entry → Bool
is_latest_of entries entry = list_all (λ other. not (same_labels entry.labels other.labels) || int_le other.at.0 entry.at.0) entries

-- the newest entries of a store, strictly by labels, are those of the window that aren't stale and that none of their
-- labels exceeds in moment
pub record NewestAreLatest : Type 0 where
  pub rises : (store : Store) (matchers : List Matcher) (from to : ℤ)
      → IsStrictlySortedBy labels_cmp (map (λ entry. entry.labels) (newest store matchers from to))
  pub latest : (store : Store) (matchers : List Matcher) (from to : ℤ) → IsTwinless store → (entry : Entry)
      → Contains (newest store matchers from to) entry
      ↔ Contains (filter (λ other. has_value other && is_latest_of (window store matchers from to) other) (window store matchers from to)) entry
