-- The lists of labels in PromQL and the clauses that have one: `on`, `ignoring`, `group_left`,
-- `group_right`, `by` and `without`.
--
-- Throughout the grammar, `n` is how many round brackets may still be opened where the words stand.
use Rattle.std.specs.Prelude.{◌≡◌, ℕ, ◌<◌, Bool, true, false, List, [], ◌∷◌, ◌++◌, Option, Some, None}
use Rattle.op_base.specs.Names.{is_label_name}
use Rattle.ql_tree.specs.ClauseWords.{matching_of, side_of, grouping_of}
use Rattle.ql_tree.specs.declared.tree.Matching.{Matching}
use Rattle.ql_tree.specs.declared.tree.Side.{Side}
use Rattle.ql_tree.specs.declared.tree.Grouping.{Grouping}
use Rattle.ql_tree.specs.declared.word.Keyword.{Keyword}
use Rattle.ql_tree.specs.declared.word.Word.{Word}
use Rattle.ql_tree.specs.declared.word.Word.TheVariants as word

-- labels between brackets, with a comma between each two and perhaps one behind the last; a label
-- is a word without `:`, also a reserved one
pub data Labels : List (List ℕ) → List Word → Type 0 where
  none : Labels [] []
  last : (k : Keyword) (label : List ℕ) → is_label_name label ≡ true → Labels (label ∷ []) (word.Name k label ∷ [])
  more : (k : Keyword) (label : List ℕ) (labels : List (List ℕ)) (ts : List Word) → is_label_name label ≡ true
      → Labels labels ts → Labels (label ∷ labels) (word.Name k label ∷ word.Comma ∷ ts)

-- `group_left` or `group_right`, with a list or without. `opens` says that the right operand begins
-- with `(`: behind a bare `group_` word that bracket would be its list's.
pub data SideOf (n : ℕ) (opens : Bool) : Option Side → List Word → Type 0 where
  none : SideOf n opens None []
  bare : (w : Word) (left : Bool) → side_of w ≡ Some left → opens ≡ false
      → SideOf n opens (Some (record { left = left; include = [] })) (w ∷ [])
  listed : (w : Word) (left : Bool) (labels : List (List ℕ)) (ts : List Word) → side_of w ≡ Some left → 0 < n
      → Labels labels ts
      → SideOf n opens (Some (record { left = left; include = labels })) (w ∷ word.Open ∷ (ts ++ (word.Close ∷ [])))

-- `on (..)` or `ignoring (..)`, and then a `group_` clause or none; or nothing
pub data MatchingOf (n : ℕ) (opens : Bool) : Option Matching → List Word → Type 0 where
  none : MatchingOf n opens None []
  given : (w : Word) (on : Bool) (labels : List (List ℕ)) (side : Option Side) (ts us : List Word) → matching_of w ≡ Some on
      → 0 < n → Labels labels ts → SideOf n opens side us
      → MatchingOf n opens (Some (record { on = on; labels = labels; side = side }))
      (w ∷ word.Open ∷ (ts ++ (word.Close ∷ us)))

-- `by (..)` or `without (..)`
pub data GroupingOf (n : ℕ) : Grouping → List Word → Type 0 where
  given : (w : Word) (by : Bool) (labels : List (List ℕ)) (ts : List Word) → grouping_of w ≡ Some by
      → 0 < n → Labels labels ts
      → GroupingOf n (record { by = by; labels = labels }) (w ∷ word.Open ∷ (ts ++ (word.Close ∷ [])))
