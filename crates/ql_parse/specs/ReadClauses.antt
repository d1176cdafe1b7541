-- The reading of lists of labels, and of the clauses that have one. `n` is how many round brackets
-- may still be opened where the words stand.
use Rattle.std.specs.Prelude.{ℕ, Bool, true, false, List, [], Option, Some, None, nat_lt, if◌then◌else◌}
use Rattle.ql_tree.specs.ClauseWords.{matching_of, side_of, grouping_of}
use Rattle.ql_tree.specs.Spells.{begins_open}
use Rattle.ql_tree.specs.declared.tree.Matching.{Matching}
use Rattle.ql_tree.specs.declared.tree.Side.{Side}
use Rattle.ql_tree.specs.declared.tree.Grouping.{Grouping}
use Rattle.ql_tree.specs.declared.word.Keyword.TheVariants as keyword
use Rattle.ql_tree.specs.declared.word.Word.{Word}
use Rattle.ql_tree.specs.declared.word.Word.TheVariants as word
use Rattle.ql_parse.specs.CommaLists.{enclosed}
use Rattle.ql_parse.specs.Found.{Found, Reader, ◌>>=◌, first}
use Rattle.ql_parse.specs.FrontWords.{beyond_keyword, label_of}

-- labels between round brackets
unfoldable pub label_list : ℕ → Reader (List (List ℕ))
label_list n ts =
    if nat_lt 0 n then enclosed word.Open word.Close (first label_of) ts else None

-- the clause with its list
abbrev pub side_of_labels : Bool → List (List ℕ) × List Word → Found (Option Side)
side_of_labels left labels = Some (Some (record { left = left; include = labels.0 }), labels.1)

-- behind a `group_` word: its list, where a bracket follows
abbrev pub side_behind : ℕ → Bool → List Word → Found (Option Side)
side_behind n left ts =
    if begins_open ts then (label_list n ts >>= side_of_labels left)
    else Some (Some (record { left = left; include = [] }), ts)

-- by the `group_` word that stands in front, if one does
abbrev pub side_at : ℕ → List Word → Option (Bool × List Word) → Found (Option Side)
side_at n ts None = Some (None, ts)
side_at n ts (Some word) = side_behind n word.0 word.1

-- `group_left` or `group_right` with a list or without, or nothing
unfoldable pub side : ℕ → Reader (Option Side)
side n ts = side_at n ts (first side_of ts)

-- the clause with its list and its `group_` clause
abbrev pub matching_of_labels
    : Bool → List (List ℕ) → Option Side × List Word → Found (Option Matching)
matching_of_labels on labels side =
    Some (Some (record { on = on; labels = labels; side = side.0 }), side.1)

-- by the word `on` or `ignoring` that stands in front, if one does
abbrev pub matching_at : ℕ → List Word → Option (Bool × List Word) → Found (Option Matching)
matching_at n ts None = Some (None, ts)
matching_at n ts (Some word) =
    label_list n word.1 >>= λ labels. side n labels.1 >>= matching_of_labels word.0 labels.0

-- `on (..)` or `ignoring (..)` and a `group_` clause or none, or nothing
unfoldable pub matching : ℕ → Reader (Option Matching)
matching n ts = matching_at n ts (first matching_of ts)

-- by the words behind `bool`, if it stands in front
abbrev pub boolean_at : List Word → Option (List Word) → Bool × List Word
boolean_at ts None = (false, ts)
boolean_at ts (Some rest) = (true, rest)

-- whether `bool` stands behind a comparison, and the words behind it
unfoldable pub boolean : Bool → List Word → Bool × List Word
boolean comparison ts = if comparison then boolean_at ts (beyond_keyword keyword.Bool ts) else (false, ts)

-- the clause with its list
abbrev pub grouping_of_labels : Bool → List (List ℕ) × List Word → Found (Option Grouping)
grouping_of_labels by labels = Some (Some (record { by = by; labels = labels.0 }), labels.1)

-- by the word `by` or `without` that stands in front, if one does
abbrev pub grouping_at : ℕ → List Word → Option (Bool × List Word) → Found (Option Grouping)
grouping_at n ts None = Some (None, ts)
grouping_at n ts (Some word) = label_list n word.1 >>= grouping_of_labels word.0

-- `by (..)` or `without (..)`, or nothing
unfoldable pub grouping : ℕ → Reader (Option Grouping)
grouping n ts = grouping_at n ts (first grouping_of ts)
