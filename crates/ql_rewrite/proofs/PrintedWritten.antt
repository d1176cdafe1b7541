-- The words of a printed tree are ones that a text can write.
use Rattle.std.proofs.Common.{◌≡◌, ℕ, zero, suc, ◌≤◌, ℤ, pos, negsuc, neg_ℤ, nat_abs, inl, inr, Bool, true, false, List, [], ◌∷◌, ◌++◌, Option, Some, None, refl, sym, subst, zero-le, le-ltb, arith}
use Rattle.std.specs.List.{AllByRecursion as Each, list_all, join_by}
use Rattle.op_base.specs.Names.{is_label_name, is_label_byte, is_metric_byte}
use Rattle.op_base.specs.Spans.{longest}
use Rattle.op_base.specs.declared.matcher.Matcher.{Matcher}
use Rattle.op_base.specs.declared.span.Span.{Span}
use Rattle.ql_tree.specs.Pieces.{Piece, blank, written}
use Rattle.ql_tree.specs.Printed.{pieces_of}
use Rattle.ql_tree.specs.PrintedParts.{bracketed, label_word, comma, close_comma, label_pieces, labels_pieces, matcher_pieces, braces_pieces, head_pieces, range_pieces, distance_pieces, offset_pieces, side_pieces, matching_pieces, bool_pieces, operator_pieces, grouping_pieces}
use Rattle.ql_tree.specs.Reserved.{is_reserved}
use Rattle.ql_tree.specs.Words.{keyword_of, span_of}
use Rattle.ql_tree.specs.declared.tree.BinaryOp.{BinaryOp}
use Rattle.ql_tree.specs.declared.tree.Expr.{Expr}
use Rattle.ql_tree.specs.declared.tree.Grouping.{Grouping}
use Rattle.ql_tree.specs.declared.tree.Matching.{Matching}
use Rattle.ql_tree.specs.declared.tree.Side.{Side}
use Rattle.ql_tree.specs.declared.word.Word.TheVariants as word
use Rattle.ql_tree.proofs.Inherited.{Inherited, AreLabels, IsSide, IsMatching, IsGrouping, IsMatcher, IsNamed, IsRange, IsOffset}
use Rattle.ql_rewrite.proofs.NodePieces.{joined_has, printed_has}
use Rattle.ql_rewrite.proofs.PrintedWords.{operator_is, aggregate_is, match_is, sign_is, matching_is, side_is, grouping_is}
use Rattle.ql_rewrite.proofs.Written.{IsWritten, AreWritten, words_of}
use Rattle.ql_rewrite.proofs.WrittenTokens.{not_negative}

-- a text can write all words of the pieces
abbrev HasWritten : List Piece → Type 0
HasWritten ps = AreWritten (words_of ps)

both : (ps qs : List Piece) → HasWritten ps → HasWritten qs → HasWritten (ps ++ qs)
both [] qs all rest = rest
both (Piece.blank ∷ ps) qs all rest = both ps qs all rest
both (Piece.written w ∷ ps) qs all rest = (all.0, both ps qs all.1 rest)

-- what stands between brackets
bracketed_written : (ps : List Piece) → HasWritten ps → HasWritten (bracketed ps)
bracketed_written ps all = (tt, both ps (written word.Close ∷ []) all (tt, tt))

label_bytes : (text : List ℕ) → list_all is_label_byte text ≡ true
    → list_all is_metric_byte text ≡ true
label_bytes [] all = refl
label_bytes (b ∷ text) all = let rest = label_bytes text (grind arith) in grind arith

label_written : (label : List ℕ) → is_label_name label ≡ true → IsWritten (label_word label)
label_written [] is = cc
label_written (b ∷ text) is = let bytes = label_bytes (b ∷ text) (grind arith) in (grind arith, refl)

listed_written : (ps qs : List Piece) → HasWritten ps → HasWritten qs → HasWritten (ps ++ (comma ++ qs))
listed_written ps qs all rest = both ps (comma ++ qs) all (tt, rest)

labels_written : (labels : List (List ℕ)) → AreLabels labels → HasWritten (labels_pieces labels)
labels_written labels are =
    bracketed_written (join_by label_pieces comma labels)
    (joined_has HasWritten label_pieces comma tt listed_written labels (each labels are))
  where
    each : (texts : List (List ℕ)) → AreLabels texts → Each (λ label. HasWritten (label_pieces label)) texts
    each [] all = tt
    each (label ∷ texts) all = ((label_written label all.0, tt), each texts all.1)

side_written : (side : Option Side) → IsSide side → HasWritten (side_pieces side)
side_written None is = tt
side_written (Some side) is = ((side_is side.left).1, labels_written side.include is)

matching_written : (m : Option Matching) → IsMatching m → HasWritten (matching_pieces m)
matching_written None is = tt
matching_written (Some m) is = (
  (matching_is m.on).1,
  both (labels_pieces m.labels) (side_pieces m.side)
      (labels_written m.labels is.0) (side_written m.side is.1),
)

bool_written : (boolean : Bool) → HasWritten (bool_pieces boolean)
unfolding keyword_of is_reserved
bool_written true = ((refl, refl), tt)
bool_written false = tt

matcher_written : (m : Matcher) → IsMatcher m → HasWritten (matcher_pieces m)
matcher_written m is = (label_written m.name is, ((match_is m.op).1, (tt, tt)))

braces_written : (ms : List Matcher) → Each IsMatcher ms → HasWritten (braces_pieces ms)
braces_written ms are = (
  tt,
  both (join_by matcher_pieces close_comma ms) (written word.CloseBrace ∷ [])
      (joined_has HasWritten matcher_pieces close_comma tt
      (λ ps qs all rest. both ps (close_comma ++ qs) all (tt, rest)) ms (each ms are)) (tt, tt),
)
  where
    each : (all : List Matcher) → Each IsMatcher all → Each (λ m. HasWritten (matcher_pieces m)) all
    each [] are = tt
    each (m ∷ all) are = (matcher_written m are.0, each all are.1)

head_written : (name : Option (List ℕ)) (ms : List Matcher) → IsNamed IsWritten name ms
    → Each IsMatcher ms → HasWritten (head_pieces name ms)
head_written None ms is are = braces_written ms are
head_written (Some name) [] is are = (is.0, tt)
head_written (Some name) (m ∷ ms) is are = (is.0, braces_written (m ∷ ms) are)

range_written : (range : Option Span) → IsRange IsWritten range → HasWritten (range_pieces range)
range_written None is = tt
range_written (Some range) is = (tt, (is.1, (tt, tt)))

distance_written : (z : ℤ) → nat_abs z ≤ longest → HasWritten (distance_pieces (span_of z))
distance_written (pos n) small = rw (le-ltb n 0 zero-le) ((not_negative n, small), tt)
distance_written (negsuc n) small = (tt, ((not_negative (suc n), small), tt))

nat_abs-neg_ℤ : (z : ℤ) → nat_abs (neg_ℤ z) ≡ nat_abs z
nat_abs-neg_ℤ (pos zero) = refl
nat_abs-neg_ℤ (pos (suc n)) = refl
nat_abs-neg_ℤ (negsuc n) = refl

offset_written : (offset : Option Span) → IsOffset IsWritten offset
    → HasWritten (offset_pieces offset)
unfolding keyword_of is_reserved
offset_written None is = tt
offset_written (Some offset) (inl is) = ((refl, refl), distance_written offset.0 is.1)
offset_written (Some offset) (inr (milliseconds, (is, is_span))) =
    let small : nat_abs (neg_ℤ milliseconds) ≤ longest =
    subst (λ k. k ≤ longest) (sym (nat_abs-neg_ℤ milliseconds)) is_span.1 in (
      (refl, refl),
      subst (λ (span : Span). HasWritten (distance_pieces span)) (sym is)
          (distance_written (neg_ℤ milliseconds) small),
    )

operator_written : (op : BinaryOp) (boolean : Bool) (m : Option Matching) → IsMatching m
    → HasWritten (operator_pieces op boolean m)
operator_written op boolean m is = (
  (operator_is op).writable,
  both (bool_pieces boolean) (matching_pieces m ++ (blank ∷ [])) (bool_written boolean)
      (both (matching_pieces m) (blank ∷ []) (matching_written m is) tt),
)

grouping_written : (g : Option Grouping) → IsGrouping g → HasWritten (grouping_pieces g)
grouping_written None is = tt
grouping_written (Some g) is =
    ((grouping_is g.by).1, both (labels_pieces g.labels) (blank ∷ []) (labels_written g.labels is) tt)

-- a text can write all words of the printed tree
abbrev pub IsPrintedWritten : Expr → Type 0
IsPrintedWritten e = HasWritten (pieces_of e).1

-- the words of a tree that is spelled can be written
pub printed_written : Inherited IsWritten IsPrintedWritten
printed_written = printed_has IsWritten HasWritten (record {
  none = tt;
  listed = listed_written;
  brackets = bracketed_written;
  number = λ z has. (has, tt);
  string = λ text has. (tt, tt);
  selector = λ name ms range offset named are in_range in_offset.
      both (head_pieces name ms) (range_pieces range ++ offset_pieces offset) (head_written name ms named are)
      (both (range_pieces range) (offset_pieces offset) (range_written range in_range)
      (offset_written offset in_offset));
  sign = λ minus ps all. ((sign_is minus).1, all);
  operator = λ op boolean m ps qs is left right.
      both ps (operator_pieces op boolean m ++ qs) left
      (both (operator_pieces op boolean m) qs (operator_written op boolean m is) right);
  call = λ function ps has all. (has, bracketed_written ps all);
  aggregate = λ op g ps is all. (
    (aggregate_is op).1,
    both (grouping_pieces g) (bracketed ps) (grouping_written g is) (bracketed_written ps all),
  );
})
