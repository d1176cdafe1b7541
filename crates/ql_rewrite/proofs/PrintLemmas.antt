-- What the text of a tree, a clause or a list is behind a text that stands already, part by part.
use Rattle.std.proofs.Common.{◌≡◌, ℕ, ◌-◌, pos, Bool, true, false, List, [], ◌∷◌, ◌++◌, Option, Some, map, nat_abs, int_lt, ap, ap₂, refl, sym, ◌∙◌, codes, not, length, ◌==◌, if◌then◌else◌, append_assoc, append-nil, arith}
use Rattle.std.specs.List.{flat_map, join_by}
use Rattle.std.proofs.lemmas.Bool.Decides.{nat_tests}
use Rattle.std.proofs.lemmas.Grind.{flat_map-append}
use Rattle.op_base.specs.declared.matcher.Matcher.{Matcher}
use Rattle.op_base.specs.declared.span.Span.{Span}
use Rattle.ql_tree.specs.Durations.{duration_text}
use Rattle.ql_tree.specs.ClauseWords.{matching_word, grouping_word, aggregate_name}
use Rattle.ql_tree.specs.PrintedParts.{bracketed, clause_pieces, comma, close_comma, label_pieces, labels_pieces, matcher_pieces, braces_pieces, head_pieces, range_pieces, distance_pieces, offset_pieces, selector_pieces, side_pieces, matching_pieces, bool_pieces, operator_pieces, grouping_pieces}
use Rattle.ql_tree.specs.Selecting.{match_word}
use Rattle.ql_tree.specs.Operators.{level_of, operator_word}
use Rattle.ql_tree.specs.Pieces.{Piece, written, bytes_of, quoted_text, piece_text, text_of}
use Rattle.ql_tree.specs.Printed.{Leveled, operand_pieces, listed_pieces, pieces_step, pieces_of}
use Rattle.ql_tree.specs.declared.tree.Expr.{Expr}
use Rattle.ql_tree.specs.declared.tree.Expr.TheOpen.{Expr-F}
use Rattle.ql_tree.specs.declared.tree.Expr.TheViews.{out-Expr}
use Rattle.ql_tree.specs.declared.tree.Expr.TheVariants as expr
use Rattle.ql_tree.specs.declared.tree.AggregateOp.{AggregateOp}
use Rattle.ql_tree.specs.declared.tree.BinaryOp.{BinaryOp}
use Rattle.ql_tree.specs.declared.tree.Grouping.{Grouping}
use Rattle.ql_tree.specs.declared.tree.Matching.{Matching}
use Rattle.ql_tree.specs.declared.tree.Expr.TheFolds.{map-Expr}
use Rattle.ql_tree.specs.declared.word.Word.{Word}
use Rattle.ql_tree.specs.declared.word.Word.TheVariants as word
use Rattle.ql_tree.proofs.NodeLemmas.{out-Select, out-Unary, out-Binary, out-Call, out-Aggregate}
use Rattle.ql_rewrite.proofs.NodePieces.{pieces_at}

-- pieces between two words
between : (t : List ℕ) (v w : Word) (ps : List Piece)
    → t ++ text_of (written v ∷ (ps ++ (written w ∷ []))) ≡ t ++ bytes_of v ++ text_of ps ++ bytes_of w
between t v w ps = simp (append_assoc, append-nil, flat_map-append)

-- a list with what stands between each two, of which each item has its text
module _ {X : Type 0} (f : X → List Piece) (g : X → List ℕ) (gap : List Piece) (is : (x : X) → text_of (f x) ≡ g x) where
  more_text : (xs : List X) → text_of (flat_map (λ x. gap ++ f x) xs) ≡ flat_map (λ x. text_of gap ++ g x) xs
  more_text [] = refl
  more_text (x ∷ xs) =
      flat_map-append piece_text (gap ++ f x) (flat_map (λ y. gap ++ f y) xs)
      ∙ ap₂ (λ s u. s ++ u) (flat_map-append piece_text gap (f x) ∙ ap (λ s. text_of gap ++ s) (is x)) (more_text xs)

  joined_text : (xs : List X) → text_of (join_by f gap xs) ≡ join_by g (text_of gap) xs
  joined_text [] = refl
  joined_text (x ∷ xs) =
      flat_map-append piece_text (f x) (flat_map (λ y. gap ++ f y) xs) ∙ ap₂ (λ s u. s ++ u) (is x) (more_text xs)

pub at_labels : (t : List ℕ) (labels : List (List ℕ))
    → t ++ text_of (labels_pieces labels) ≡ t ++ codes "(" ++ join_by (λ label. label) (codes ", ") labels ++ codes ")"
at_labels t labels =
    between t word.Open word.Close (join_by label_pieces comma labels)
    ∙ ap (λ s. t ++ codes "(" ++ s ++ codes ")") (joined_text label_pieces (λ label. label) comma append-nil labels)

pub at_clause : (t : List ℕ) (w : Word) (labels : List (List ℕ))
    → t ++ text_of (clause_pieces w labels) ≡ t ++ codes " " ++ bytes_of w ++ codes " " ++ text_of (labels_pieces labels)
at_clause t w labels = simp append_assoc

pub at_matching : (t : List ℕ) (m : Matching)
    → t ++ text_of (matching_pieces (Some m))
    ≡ t ++ codes " " ++ bytes_of (matching_word m.on) ++ codes " " ++ text_of (labels_pieces m.labels) ++ text_of (side_pieces m.side)
at_matching t m = simp (append_assoc, flat_map-append)

pub at_grouping : (t : List ℕ) (g : Grouping)
    → t ++ text_of (grouping_pieces (Some g))
    ≡ t ++ codes " " ++ bytes_of (grouping_word g.by) ++ codes " " ++ text_of (labels_pieces g.labels) ++ codes " "
at_grouping t g = simp (append_assoc, flat_map-append)

bool_text : (boolean : Bool) → text_of (bool_pieces boolean) ≡ (if boolean then codes " bool" else codes "")
bool_text true = refl
bool_text false = refl

pub at_operator_pieces : (t : List ℕ) (op : BinaryOp) (boolean : Bool) (m : Option Matching)
    → t ++ text_of (operator_pieces op boolean m)
    ≡ t ++ codes " " ++ bytes_of (operator_word op) ++ (if boolean then codes " bool" else codes "")
    ++ text_of (matching_pieces m) ++ codes " "
at_operator_pieces t op boolean m =
    simp (append_assoc, flat_map-append, bool_text boolean)

pub at_matcher : (t : List ℕ) (m : Matcher)
    → t ++ text_of (matcher_pieces m) ≡ t ++ m.name ++ bytes_of (match_word m.op) ++ quoted_text m.value
at_matcher t m = simp (append_assoc, append-nil)

pub at_braces : (t : List ℕ) (ms : List Matcher)
    → t ++ text_of (braces_pieces ms)
    ≡ t ++ codes "{" ++ join_by (λ m. text_of (matcher_pieces m)) (codes ",") ms ++ codes "}"
at_braces t ms =
    between t word.OpenBrace word.CloseBrace (join_by matcher_pieces close_comma ms)
    ∙ ap (λ s. t ++ codes "{" ++ s ++ codes "}")
    (joined_text matcher_pieces (λ m. text_of (matcher_pieces m)) close_comma (λ m. refl) ms)

pub at_range : (t : List ℕ) (span : Span)
    → t ++ text_of (range_pieces (Some span)) ≡ t ++ codes "[" ++ duration_text (nat_abs span.0) ++ codes "]"
at_range t span = simp (append_assoc, append-nil)

pub at_offset : (t : List ℕ) (span : Span)
    → t ++ text_of (offset_pieces (Some span))
    ≡ t ++ codes " offset " ++ (if int_lt span.0 (pos 0) then codes "-" else codes "") ++ duration_text (nat_abs span.0)
at_offset t span =
    sym (append_assoc t (codes " offset ") (text_of (distance_pieces span)))
    ∙ by_sign (t ++ codes " offset ") (int_lt span.0 (pos 0))
  where
    size : Word
    size = word.Duration (record { 0 = pos (nat_abs span.0) })

    by_sign : (s : List ℕ) (behind : Bool)
        → s ++ text_of (if behind then written word.Minus ∷ written size ∷ [] else written size ∷ [])
        ≡ s ++ (if behind then codes "-" else codes "") ++ duration_text (nat_abs span.0)
    by_sign s true = simp (append_assoc, append-nil)
    by_sign s false = simp (append_assoc, append-nil)

pub at_selector : (t : List ℕ) (name : Option (List ℕ)) (ms : List Matcher) (range offset : Option Span)
    → t ++ text_of (selector_pieces name ms range offset)
    ≡ t ++ text_of (head_pieces name ms) ++ text_of (range_pieces range) ++ text_of (offset_pieces offset)
at_selector t name ms range offset = simp (append_assoc, flat_map-append)

pub at_brackets : (t : List ℕ) (ps : List Piece)
    → t ++ text_of (bracketed ps) ≡ t ++ codes "(" ++ text_of ps ++ codes ")"
at_brackets t ps = between t word.Open word.Close ps

-- trees with a comma and a blank between each two
abbrev pub listed_text : List Leveled → List ℕ
listed_text ps = join_by (λ p. text_of p.1) (codes ", ") ps

text_of_listed : (ps : List Leveled) → text_of (listed_pieces ps) ≡ listed_text ps
text_of_listed ps = joined_text (λ (p : Leveled). p.1) (λ (p : Leveled). text_of p.1) comma (λ p. refl) ps

-- trees behind others, or where nothing stands before them
abbrev pub listed_behind : Bool → List Leveled → List ℕ
listed_behind behind ps = if behind then flat_map (λ p. codes ", " ++ text_of p.1) ps else listed_text ps

listed_both : (first second : List Expr)
    → listed_text (map pieces_of first ++ map pieces_of second)
    ≡ listed_text (map pieces_of first) ++ listed_behind (not (length first == 0)) (map pieces_of second)
listed_both [] second = refl
listed_both (e ∷ first) second =
    let behind : Leveled → List ℕ = λ p. codes ", " ++ text_of p.1 in
    let some : (length (e ∷ first) == 0) ≡ false = grind (arith, nat_tests) in
    rw some (ap (λ s. text_of (pieces_of e).1 ++ s) (flat_map-append behind (map pieces_of first) (map pieces_of second))
    ∙ sym (append_assoc (text_of (pieces_of e).1) (flat_map behind (map pieces_of first)) (flat_map behind (map pieces_of second))))

-- what the pieces of a tree are at a node
pieces_out : (t : List ℕ) (e : Expr) (node : Expr-F Expr) → out-Expr e ≡ node
    → t ++ text_of (pieces_of e).1 ≡ t ++ text_of (pieces_step (map-Expr Expr Leveled pieces_of node)).1
pieces_out t e node is = ap (λ (p : Leveled). t ++ text_of p.1) (pieces_at e node is)

pub at_select : (t : List ℕ) (name : Option (List ℕ)) (ms : List Matcher) (range offset : Option Span)
    → t ++ text_of (pieces_of (expr.Select name ms range offset)).1 ≡ t ++ text_of (selector_pieces name ms range offset)
at_select t name ms range offset =
    pieces_out t (expr.Select name ms range offset) (Expr-F.Select name ms range offset) (out-Select name ms range offset)

pub at_sign : (t : List ℕ) (minus : Bool) (of : List Expr)
    → t ++ text_of (pieces_of (expr.Unary minus of)).1
    ≡ t ++ (if minus then codes "-" else codes "+") ++ text_of (operand_pieces 0 (map pieces_of of))
at_sign t minus of =
    pieces_out t (expr.Unary minus of) (Expr-F.Unary minus of) (out-Unary minus of)
    ∙ by_sign minus (text_of (operand_pieces 0 (map pieces_of of)))
  where
    by_sign : (is_minus : Bool) (s : List ℕ)
        → t ++ (bytes_of (if is_minus then word.Minus else word.Plus) ++ s) ≡ t ++ (if is_minus then codes "-" else codes "+") ++ s
    by_sign true s = sym (append_assoc t (codes "-") s)
    by_sign false s = sym (append_assoc t (codes "+") s)

pub at_operator : (t : List ℕ) (op : BinaryOp) (boolean : Bool) (m : Option Matching) (left right : List Expr)
    → t ++ text_of (pieces_of (expr.Binary op boolean m left right)).1
    ≡ t ++ text_of (operand_pieces (level_of op) (map pieces_of left)) ++ text_of (operator_pieces op boolean m)
    ++ text_of (operand_pieces (level_of op - 1) (map pieces_of right))
at_operator t op boolean m left right =
    pieces_out t (expr.Binary op boolean m left right) (Expr-F.Binary op boolean m left right) (out-Binary op boolean m left right)
    ∙ simp (append_assoc, flat_map-append)

pub at_call : (t function : List ℕ) (args : List Expr)
    → t ++ text_of (pieces_of (expr.Call function args)).1
    ≡ t ++ function ++ codes "(" ++ listed_text (map pieces_of args) ++ codes ")"
at_call t function args =
    pieces_out t (expr.Call function args) (Expr-F.Call function args) (out-Call function args)
    ∙ simp (append_assoc, flat_map-append, text_of_listed)

pub at_aggregate : (t : List ℕ) (op : AggregateOp) (grouping : Option Grouping) (param of : List Expr)
    → t ++ text_of (pieces_of (expr.Aggregate op grouping param of)).1
    ≡ t ++ aggregate_name op ++ text_of (grouping_pieces grouping) ++ codes "(" ++ listed_text (map pieces_of param)
    ++ listed_behind (not (length param == 0)) (map pieces_of of) ++ codes ")"
at_aggregate t op grouping param of =
    pieces_out t (expr.Aggregate op grouping param of) (Expr-F.Aggregate op grouping param of) (out-Aggregate op grouping param of)
    ∙ simp (append_assoc, flat_map-append, text_of_listed, listed_both)
