-- The words of a printed selector, and of the clauses with labels, spell it.
use Rattle.std.proofs.Common.{◌≡◌, ℕ, suc, ◌<◌, ℤ, pos, negsuc, Bool, List, [], ◌∷◌, ◌++◌, Option, Some, None, codes, refl, ap, ◌∙◌, zero-le, append_assoc, le-ltb}
use Rattle.std.specs.List.{AllByRecursion as Each, join_by}
use Rattle.op_base.specs.declared.matcher.Matcher.{Matcher}
use Rattle.op_base.specs.declared.span.Span.{Span}
use Rattle.ql_tree.specs.Clauses.{Labels, SideOf, MatchingOf, GroupingOf}
use Rattle.ql_tree.specs.ClauseWords.{side_word, matching_word, grouping_word}
use Rattle.ql_tree.specs.PrintedParts.{comma, label_pieces, side_pieces, matching_pieces, grouping_pieces, matcher_pieces, head_pieces, range_pieces, offset_pieces, distance_pieces, selector_pieces}
use Rattle.ql_tree.specs.Pieces.{Piece, written}
use Rattle.ql_tree.specs.Selecting.{match_word, MatcherOf, Matchers, Head, RangeOf, OffsetOf, SelectorOf}
use Rattle.ql_tree.specs.Words.{keyword_of, span_of}
use Rattle.ql_tree.specs.declared.tree.Expr.TheVariants as expr
use Rattle.ql_tree.specs.declared.tree.Grouping.{Grouping}
use Rattle.ql_tree.specs.declared.tree.Matching.{Matching}
use Rattle.ql_tree.specs.declared.tree.Side.{Side}
use Rattle.ql_tree.specs.declared.word.Keyword.TheVariants as keyword
use Rattle.ql_tree.specs.declared.word.Word.{Word}
use Rattle.ql_tree.specs.declared.word.Word.TheVariants as word
use Rattle.ql_tree.proofs.Inherited.{AreLabels, IsSide, IsMatching, IsMatcher, IsNamed, IsRange}
use Rattle.ql_rewrite.proofs.PrintedWords.{match_is, matching_is, side_is, grouping_is}
use Rattle.ql_rewrite.proofs.Written.{words_of}

pub words-append : (ps qs : List Piece) → words_of (ps ++ qs) ≡ words_of ps ++ words_of qs
words-append [] qs = refl
words-append (Piece.blank ∷ ps) qs = words-append ps qs
words-append (Piece.written w ∷ ps) qs = ap (λ ts. w ∷ ts) (words-append ps qs)

-- the words before a last one, and those before one in the middle
pub before_last : (ps : List Piece) (w : Word)
    → words_of (ps ++ (written w ∷ [])) ≡ words_of ps ++ (w ∷ [])
before_last ps w = words-append ps (written w ∷ [])

pub around : (ps qs : List Piece) (w : Word)
    → words_of ((ps ++ (written w ∷ [])) ++ qs) ≡ words_of ps ++ (w ∷ words_of qs)
around ps qs w = ap words_of (append_assoc ps (written w ∷ []) qs) ∙ words-append ps (written w ∷ qs)

-- `a, b`
abbrev inner_labels : List (List ℕ) → List Piece
inner_labels labels = join_by label_pieces comma labels

labels_spelled : (labels : List (List ℕ)) → AreLabels labels
    → Labels labels (words_of (inner_labels labels))
labels_spelled [] are = Labels.none
labels_spelled (label ∷ []) are = Labels.last (keyword_of label) label are.0
labels_spelled (label ∷ next ∷ rest) are =
    Labels.more (keyword_of label) label (next ∷ rest) (words_of (inner_labels (next ∷ rest))) are.0
    (labels_spelled (next ∷ rest) are.1)

side_spelled : (n : ℕ) (opens : Bool) (side : Option Side) → 0 < n → IsSide side
    → SideOf n opens side (words_of (side_pieces side))
side_spelled n opens None some is = SideOf.none
side_spelled n opens (Some side) some is =
    rw (before_last (inner_labels side.include) word.Close)
    (SideOf.listed (side_word side.left) side.left side.include
    (words_of (inner_labels side.include)) (side_is side.left).0 some
    (labels_spelled side.include is))

pub matching_spelled : (n : ℕ) (opens : Bool) (m : Option Matching) → 0 < n → IsMatching m
    → MatchingOf n opens m (words_of (matching_pieces m))
matching_spelled n opens None some is = MatchingOf.none
matching_spelled n opens (Some m) some is =
    rw (around (inner_labels m.labels) (side_pieces m.side) word.Close)
    (MatchingOf.given (matching_word m.on) m.on m.labels m.side (words_of (inner_labels m.labels))
    (words_of (side_pieces m.side))
    (matching_is m.on).0 some (labels_spelled m.labels is.0) (side_spelled n opens m.side some is.1))

-- the words of `by (a, b)`
abbrev pub grouping_words : Grouping → List Word
grouping_words g = grouping_word
    g.by ∷ word.Open ∷ (words_of (inner_labels g.labels) ++ (word.Close ∷ []))

pub grouping_spelled : (n : ℕ) (g : Grouping) → 0 < n → AreLabels g.labels
    → GroupingOf n g (grouping_words g)
grouping_spelled n g some are =
    GroupingOf.given (grouping_word g.by) g.by g.labels (words_of (inner_labels g.labels))
    (grouping_is g.by).0 some (labels_spelled g.labels are)

pub words-grouping : (g : Grouping) (ps : List Piece)
    → words_of (grouping_pieces (Some g) ++ ps) ≡ grouping_words g ++ words_of ps
words-grouping g ps = simp (words-append, append_assoc)

matcher_spelled : (m : Matcher) → IsMatcher m → MatcherOf m (words_of (matcher_pieces m))
matcher_spelled m is =
    MatcherOf.matcher (keyword_of m.name) m.name m.value (match_word m.op) m.op is (match_is m.op).0

-- `a="b",c=~"d"`
abbrev inner_matchers : List Matcher → List Piece
inner_matchers ms = join_by matcher_pieces (written word.Comma ∷ []) ms

matchers_spelled : (ms : List Matcher) → Each IsMatcher ms
    → Matchers ms (words_of (inner_matchers ms))
matchers_spelled [] are = Matchers.none
matchers_spelled (m ∷ []) are =
    Matchers.last m (words_of (matcher_pieces m)) (matcher_spelled m are.0)
matchers_spelled (m ∷ n ∷ ms) are =
    Matchers.more m (n ∷ ms) (words_of (matcher_pieces m)) (words_of (inner_matchers (n ∷ ms)))
    (matcher_spelled m are.0)
    (matchers_spelled (n ∷ ms) are.1)

head_spelled : (W : Word → Type 0) (name : Option (List ℕ)) (ms : List Matcher) → IsNamed W name ms
    → Each IsMatcher ms
    → Head name ms (words_of (head_pieces name ms))
head_spelled W None ms is are =
    rw (before_last (inner_matchers ms) word.CloseBrace)
    (Head.nameless ms (words_of (inner_matchers ms)) (matchers_spelled ms are))
head_spelled W (Some name) [] is are = Head.bare name
head_spelled W (Some name) (m ∷ ms) is are =
    rw (before_last (inner_matchers (m ∷ ms)) word.CloseBrace)
    (Head.named name (m ∷ ms) (words_of (inner_matchers (m ∷ ms))) is.1
    (matchers_spelled (m ∷ ms) are))

range_spelled : (W : Word → Type 0) (range : Option Span) → IsRange W range
    → RangeOf range (words_of (range_pieces range))
range_spelled W None is = RangeOf.none
range_spelled W (Some range) is = RangeOf.given range.0 is.0

distance_spelled : (z : ℤ)
    → OffsetOf (Some (span_of z))
    (word.Name keyword.Offset (codes "offset") ∷ words_of (distance_pieces (span_of z)))
distance_spelled (pos n) = rw (le-ltb n 0 zero-le) (OffsetOf.back (codes "offset") (pos n))
distance_spelled (negsuc n) = OffsetOf.ahead (codes "offset") (pos (suc n))

offset_spelled : (offset : Option Span) → OffsetOf offset (words_of (offset_pieces offset))
offset_spelled None = OffsetOf.none
offset_spelled (Some span) = distance_spelled span.0

pub selector_spelled : (W : Word → Type 0) (name : Option (List ℕ)) (ms : List Matcher)
    (range offset : Option Span)
    → IsNamed W name ms → Each IsMatcher ms → IsRange W range
    → SelectorOf (expr.Select name ms range offset)
    (words_of (selector_pieces name ms range offset))
selector_spelled W name ms range offset named are is =
    rw (words-append (head_pieces name ms) (range_pieces range ++ offset_pieces offset))
    (rw (words-append (range_pieces range) (offset_pieces offset))
    (SelectorOf.selector name ms range offset (words_of (head_pieces name ms))
    (words_of (range_pieces range)) (words_of (offset_pieces offset))
    (head_spelled W name ms named are) (range_spelled W range is) (offset_spelled offset)))
