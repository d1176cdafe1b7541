-- What a selector, a clause with labels and an operator are printed with: words, and blanks between them.
use Rattle.std.specs.Prelude.{ℕ, pos, Bool, List, [], ◌∷◌, ◌++◌, Option, Some, None, int_lt, nat_abs, codes, if◌then◌else◌}
use Rattle.std.specs.List.{join_by}
use Rattle.op_base.specs.declared.matcher.Matcher.{Matcher}
use Rattle.op_base.specs.declared.span.Span.{Span}
use Rattle.ql_tree.specs.ClauseWords.{matching_word, side_word, grouping_word}
use Rattle.ql_tree.specs.Operators.{operator_word}
use Rattle.ql_tree.specs.Pieces.{Piece, blank, written}
use Rattle.ql_tree.specs.Selecting.{match_word}
use Rattle.ql_tree.specs.Words.{keyword_of, span_of}
use Rattle.ql_tree.specs.declared.tree.BinaryOp.{BinaryOp}
use Rattle.ql_tree.specs.declared.tree.Grouping.{Grouping}
use Rattle.ql_tree.specs.declared.tree.Matching.{Matching}
use Rattle.ql_tree.specs.declared.tree.Side.{Side}
use Rattle.ql_tree.specs.declared.word.Keyword.TheVariants as keyword
use Rattle.ql_tree.specs.declared.word.Word.{Word}
use Rattle.ql_tree.specs.declared.word.Word.TheVariants as word

-- a label's word, which may be a reserved one
abbrev pub label_word : List ℕ → Word
label_word label = word.Name (keyword_of label) label

-- pieces in round brackets
abbrev pub bracketed : List Piece → List Piece
bracketed pieces = written word.Open ∷ (pieces ++ (written word.Close ∷ []))

-- a comma and a blank
abbrev pub comma : List Piece
comma = written word.Comma ∷ blank ∷ []

-- a comma with no blank behind it
abbrev pub close_comma : List Piece
close_comma = written word.Comma ∷ []

-- a label alone
abbrev pub label_pieces : List ℕ → List Piece
label_pieces label = written (label_word label) ∷ []

-- `(a, b)`
abbrev pub labels_pieces : List (List ℕ) → List Piece
labels_pieces labels = bracketed (join_by label_pieces comma labels)

-- a matcher: its label, its operator and its value in quotes
abbrev pub matcher_pieces : Matcher → List Piece
matcher_pieces m = written (label_word m.name) ∷ written (match_word m.op) ∷ written (word.Quoted m.value) ∷ []

-- `{a="b",c=~"d"}`
abbrev pub braces_pieces : List Matcher → List Piece
braces_pieces matchers =
    written word.OpenBrace ∷ (join_by matcher_pieces close_comma matchers ++ (written word.CloseBrace ∷ []))

-- a name without matchers has no braces, a selector without a name always has them
abbrev pub head_pieces : Option (List ℕ) → List Matcher → List Piece
head_pieces None matchers = braces_pieces matchers
head_pieces (Some name) [] = written (word.Name keyword.Unreserved name) ∷ []
head_pieces (Some name) (m ∷ matchers) = written (word.Name keyword.Unreserved name) ∷ braces_pieces (m ∷ matchers)

-- `[5m]`
abbrev pub range_pieces : Option Span → List Piece
range_pieces None = []
range_pieces (Some span) = written word.OpenSquare ∷ written (word.Duration span) ∷ written word.CloseSquare ∷ []

-- a duration without its sign
abbrev pub length_word : Span → Word
length_word span = word.Duration (span_of (pos (nat_abs span.0)))

-- `5m` or `-5m`
abbrev pub distance_pieces : Span → List Piece
distance_pieces span =
    if int_lt span.0 (pos 0) then written word.Minus ∷ written (length_word span) ∷ [] else written (length_word span) ∷ []

-- ` offset 5m` or ` offset -5m`
abbrev pub offset_pieces : Option Span → List Piece
offset_pieces None = []
offset_pieces (Some span) = blank ∷ written (word.Name keyword.Offset (codes "offset")) ∷ blank ∷ distance_pieces span

-- a selector's name with its matchers, its range and its offset
abbrev pub selector_pieces : Option (List ℕ) → List Matcher → Option Span → Option Span → List Piece
selector_pieces name matchers range offset = head_pieces name matchers ++ (range_pieces range ++ offset_pieces offset)

-- ` on (a, b)`: the word of a clause and its labels
abbrev pub clause_pieces : Word → List (List ℕ) → List Piece
clause_pieces w labels = blank ∷ written w ∷ blank ∷ labels_pieces labels

-- ` group_left (c)`, always with its list
abbrev pub side_pieces : Option Side → List Piece
side_pieces None = []
side_pieces (Some side) = clause_pieces (side_word side.left) side.include

-- ` on (a, b)` or ` ignoring (a, b)`
abbrev pub matching_pieces : Option Matching → List Piece
matching_pieces None = []
matching_pieces (Some m) = clause_pieces (matching_word m.on) m.labels ++ side_pieces m.side

-- ` bool`
abbrev pub bool_pieces : Bool → List Piece
bool_pieces boolean = if boolean then blank ∷ written (word.Name keyword.Bool (codes "bool")) ∷ [] else []

-- an operator with what stands between it and its right operand, blanks included
abbrev pub operator_pieces : BinaryOp → Bool → Option Matching → List Piece
operator_pieces op boolean m =
    blank ∷ written (operator_word op) ∷ (bool_pieces boolean ++ (matching_pieces m ++ (blank ∷ [])))

-- ` by (a, b) ` or ` without (a, b) `
abbrev pub grouping_pieces : Option Grouping → List Piece
grouping_pieces None = []
grouping_pieces (Some g) = clause_pieces (grouping_word g.by) g.labels ++ (blank ∷ [])
