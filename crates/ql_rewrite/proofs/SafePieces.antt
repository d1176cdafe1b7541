-- In a printed tree each two words with no blank between them may stand so.
--
-- What follows a tree, a clause or a list there begins freely: with a blank, a bracket or a comma,
-- which may stand behind any word.
use Rattle.std.proofs.Common.{◌≡◌, ℕ, pos, Bool, true, false, List, [], ◌∷◌, ◌++◌, Option, Some, None, not, ◌&&◌, ◌||◌, int_lt, codes, if◌then◌else◌, refl, ap, sym, ◌∙◌, append_assoc, append-nil, arith}
use Rattle.std.specs.List.{AllByRecursion as Each, join_by}
use Rattle.op_base.specs.declared.matcher.Matcher.{Matcher}
use Rattle.op_base.specs.declared.matcher.MatchOp.{MatchOp}
use Rattle.op_base.specs.declared.matcher.MatchOp.TheVariants as match
use Rattle.op_base.specs.declared.span.Span.{Span}
use Rattle.ql_tree.specs.ClauseWords.{aggregate_word, matching_word, side_word, grouping_word}
use Rattle.ql_tree.specs.PrintedParts.{bracketed, label_word, comma, close_comma, label_pieces, labels_pieces, clause_pieces, matcher_pieces, braces_pieces, head_pieces, range_pieces, length_word, distance_pieces, offset_pieces, side_pieces, matching_pieces, bool_pieces, operator_pieces, grouping_pieces}
use Rattle.ql_tree.specs.Selecting.{match_word}
use Rattle.ql_tree.specs.Operators.{operator_word, sign_word}
use Rattle.ql_tree.specs.Pieces.{Piece, blank, written}
use Rattle.ql_tree.specs.Printed.{pieces_of}
use Rattle.ql_tree.specs.declared.tree.AggregateOp.{AggregateOp}
use Rattle.ql_tree.specs.declared.tree.BinaryOp.{BinaryOp}
use Rattle.ql_tree.specs.declared.tree.Expr.{Expr}
use Rattle.ql_tree.specs.declared.tree.Grouping.{Grouping}
use Rattle.ql_tree.specs.declared.tree.Matching.{Matching}
use Rattle.ql_tree.specs.declared.tree.Side.{Side}
use Rattle.ql_tree.specs.declared.word.Keyword.TheVariants as keyword
use Rattle.ql_tree.specs.declared.word.Word.{Word}
use Rattle.ql_tree.specs.declared.word.Word.TheVariants as word
use Rattle.ql_tree.proofs.Inherited.{Inherited}
use Rattle.ql_rewrite.proofs.NodePieces.{joined_has, printed_has}
use Rattle.ql_rewrite.proofs.Written.{is_run, may_double, begins_equal, is_safe, is_safe_before, are_safe}

-- a blank, or a word that may stand behind any other
abbrev pub begins_free : List Piece → Bool
begins_free [] = true
begins_free (Piece.blank ∷ pieces) = true
begins_free (Piece.written w ∷ pieces) = not (is_run w || begins_equal w)

-- the pieces may stand behind any word, and are safe
pub record IsFree (pieces : List Piece) : Type 0 where
  pub begins : begins_free pieces ≡ true
  pub safe : are_safe pieces ≡ true

and_true : (b c : Bool) → b ≡ true → c ≡ true → (b && c) ≡ true
and_true b c is also = grind arith

free_word : (v w : Word) → not (is_run w || begins_equal w) ≡ true → is_safe v w ≡ true
free_word v w free = grind arith

behind_any : (w : Word) (rest : List Piece) → begins_free rest ≡ true → is_safe_before w rest ≡ true
behind_any w [] free = refl
behind_any w (Piece.blank ∷ rest) free = refl
behind_any w (Piece.written v ∷ rest) free = free_word w v free

-- a word before what begins freely
before_free : (w : Word) (rest : List Piece) → IsFree rest → are_safe (written w ∷ rest) ≡ true
before_free w rest is =
    and_true (is_safe_before w rest) (are_safe rest) (behind_any w rest is.begins) is.safe

-- a word that anything may follow
opens : (w : Word) (rest : List Piece) → is_run w ≡ false → may_double w ≡ false
    → are_safe rest ≡ true → are_safe (written w ∷ rest) ≡ true
opens w rest no_run no_double safe =
    and_true (is_safe_before w rest) (are_safe rest) (before_all rest) safe
  where
    before_all : (pieces : List Piece) → is_safe_before w pieces ≡ true
    before_all [] = refl
    before_all (Piece.blank ∷ pieces) = refl
    before_all (Piece.written v ∷ pieces) = grind arith

-- a blank before what is safe
behind_blank : (rest : List Piece) → are_safe rest ≡ true → IsFree (blank ∷ rest)
behind_blank rest safe = record { begins = refl; safe = safe }

-- the pieces with what may follow them
abbrev pub IsSafeBefore : List Piece → Type 0
IsSafeBefore pieces = (rest : List Piece) → IsFree rest → are_safe (pieces ++ rest) ≡ true

-- pieces that may stand behind any word, with what may follow them
abbrev IsFreeBefore : List Piece → Type 0
IsFreeBefore pieces = (rest : List Piece) → IsFree rest → IsFree (pieces ++ rest)

-- pieces with a blank at their end, which anything may follow
abbrev IsFreeBeforeAll : List Piece → Type 0
IsFreeBeforeAll pieces = (rest : List Piece) → are_safe rest ≡ true → IsFree (pieces ++ rest)

-- a comma or a closing bracket before what may follow
free_close : (w : Word) (rest : List Piece) → not (is_run w || begins_equal w) ≡ true → IsFree rest
    → IsFree (written w ∷ rest)
free_close w rest free is = record { begins = free; safe = before_free w rest is }

closed : (ps : List Piece) (w : Word) → not (is_run w || begins_equal w) ≡ true → IsSafeBefore ps
    → IsSafeBefore (ps ++ (written w ∷ []))
closed ps w free safe rest is =
    rw (append_assoc ps (written w ∷ []) rest) (safe (written w ∷ rest) (free_close w rest free is))

both : (ps qs : List Piece) → IsSafeBefore ps → IsFreeBefore qs → IsSafeBefore (ps ++ qs)
both ps qs first second rest is = rw (append_assoc ps qs rest) (first (qs ++ rest) (second rest is))

both_free : (ps qs : List Piece) → IsFreeBefore ps → IsFreeBefore qs → IsFreeBefore (ps ++ qs)
both_free ps qs first second rest is =
    rw (append_assoc ps qs rest) (first (qs ++ rest) (second rest is))

-- with a blank at the end
with_blank : (ps : List Piece) → IsFreeBefore ps → IsFreeBeforeAll (ps ++ (blank ∷ []))
with_blank ps first rest safe =
    rw (append_assoc ps (blank ∷ []) rest) (first (blank ∷ rest) (behind_blank rest safe))

each_safe : {X : Type 0} (f : X → List Piece) → ((x : X) → IsSafeBefore (f x)) → (xs : List X)
    → Each (λ x. IsSafeBefore (f x)) xs
each_safe f all [] = tt
each_safe f all (x ∷ xs) = (all x, each_safe f all xs)

-- pieces and others behind a comma, with a blank behind it or without
listed_safe : (ps qs : List Piece) → IsSafeBefore ps → IsSafeBefore qs → IsSafeBefore (ps ++ (comma ++ qs))
listed_safe ps qs first second =
    both ps (comma ++ qs) first
    (λ rest is. record { begins = refl; safe = opens word.Comma (blank ∷ (qs ++ rest)) refl refl (second rest is) })

closely_listed : (ps qs : List Piece) → IsSafeBefore ps → IsSafeBefore qs → IsSafeBefore (ps ++ (close_comma ++ qs))
closely_listed ps qs first second =
    both ps (close_comma ++ qs) first
    (λ rest is. record { begins = refl; safe = opens word.Comma (qs ++ rest) refl refl (second rest is) })

-- no pieces
none_safe : IsSafeBefore []
none_safe rest is = is.safe

-- what stands between brackets
bracketed_free : (ps : List Piece) → IsSafeBefore ps
    → IsFreeBefore (bracketed ps)
bracketed_free ps safe rest is = record {
  begins = refl;
  safe = opens word.Open ((ps ++ (written word.Close ∷ [])) ++ rest) refl refl
      (closed ps word.Close refl safe rest is);
}

labels_free : (labels : List (List ℕ)) → IsFreeBefore (labels_pieces labels)
labels_free labels =
    bracketed_free (join_by label_pieces comma labels)
    (joined_has IsSafeBefore label_pieces comma none_safe listed_safe labels
    (each_safe label_pieces (λ label. before_free (label_word label)) labels))

clause_free : (w : Word) (labels : List (List ℕ)) → IsFreeBefore (clause_pieces w labels)
clause_free w labels rest is = record {
  begins = refl;
  safe = before_free w (blank ∷ (labels_pieces labels ++ rest))
      (behind_blank (labels_pieces labels ++ rest) (labels_free labels rest is).safe);
}

side_free : (side : Option Side) → IsFreeBefore (side_pieces side)
side_free None rest is = is
side_free (Some side) rest is = clause_free (side_word side.left) side.include rest is

matching_free : (m : Option Matching) → IsFreeBefore (matching_pieces m)
matching_free None rest is = is
matching_free (Some m) rest is =
    both_free (clause_pieces (matching_word m.on) m.labels) (side_pieces m.side)
    (clause_free (matching_word m.on) m.labels) (side_free m.side) rest is

bool_free : (boolean : Bool) → IsFreeBefore (bool_pieces boolean)
bool_free true rest is =
    record { begins = refl; safe = before_free (word.Name keyword.Bool (codes "bool")) rest is }
bool_free false rest is = is

operator_free : (op : BinaryOp) (boolean : Bool) (m : Option Matching)
    → IsFreeBeforeAll (operator_pieces op boolean m)
operator_free op boolean m rest safe =
    let matching : List Piece = matching_pieces m ++ (blank ∷ []) in
    record {
      begins = refl;
      safe = before_free (operator_word op) ((bool_pieces boolean ++ matching) ++ rest)
          (rw (append_assoc (bool_pieces boolean) matching rest)
          (bool_free boolean (matching ++ rest) (with_blank (matching_pieces m) (matching_free m) rest safe)));
    }

grouping_free : (g : Option Grouping) → IsFreeBefore (grouping_pieces g)
grouping_free None rest is = is
grouping_free (Some g) rest is =
    with_blank (clause_pieces (grouping_word g.by) g.labels) (clause_free (grouping_word g.by) g.labels) rest is.safe

matcher_safe : (m : Matcher) → IsSafeBefore (matcher_pieces m)
matcher_safe m rest is = by_operator m.op (before_free (word.Quoted m.value) rest is)
  where
    by_operator : (op : MatchOp) → are_safe (written (word.Quoted m.value) ∷ rest) ≡ true
        → are_safe (written (label_word m.name) ∷ written (match_word op) ∷ written
        (word.Quoted m.value) ∷ rest) ≡ true
    by_operator match.Eq safe = safe
    by_operator match.Ne safe = safe
    by_operator match.Re safe = safe
    by_operator match.Nr safe = safe

braces_free : (ms : List Matcher) → IsFreeBefore (braces_pieces ms)
braces_free ms rest is =
    let inner : List Piece = join_by matcher_pieces close_comma ms in
    let safe : IsSafeBefore inner =
    joined_has IsSafeBefore matcher_pieces close_comma none_safe closely_listed ms
    (each_safe matcher_pieces matcher_safe ms) in
    record {
      begins = refl;
      safe = opens word.OpenBrace ((inner ++ (written word.CloseBrace ∷ [])) ++ rest) refl refl
          (closed inner word.CloseBrace refl safe rest is);
    }

head_safe : (name : Option (List ℕ)) (ms : List Matcher) → IsSafeBefore (head_pieces name ms)
head_safe None ms rest is = (braces_free ms rest is).safe
head_safe (Some name) [] rest is = before_free (word.Name keyword.Unreserved name) rest is
head_safe (Some name) (m ∷ ms) rest is =
    before_free (word.Name keyword.Unreserved name) (braces_pieces (m ∷ ms) ++ rest)
    (braces_free (m ∷ ms) rest is)

range_free : (range : Option Span) → IsFreeBefore (range_pieces range)
range_free None rest is = is
range_free (Some span) rest is = record { begins = refl; safe = before_free word.CloseSquare rest is }

distance_safe : (span : Span) → IsSafeBefore (distance_pieces span)
distance_safe span rest is =
    by_sign (int_lt span.0 (pos 0)) (before_free (length_word span) rest is)
  where
    by_sign : (behind : Bool) → are_safe (written (length_word span) ∷ rest) ≡ true
        → are_safe ((if behind then written word.Minus ∷ written (length_word span) ∷ [] else written
        (length_word span) ∷ []) ++ rest) ≡ true
    by_sign true safe = safe
    by_sign false safe = safe

offset_free : (offset : Option Span) → IsFreeBefore (offset_pieces offset)
offset_free None rest is = is
offset_free (Some span) rest is = record {
  begins = refl;
  safe = before_free (word.Name keyword.Offset (codes "offset")) (blank ∷ (distance_pieces span ++ rest))
      (behind_blank (distance_pieces span ++ rest) (distance_safe span rest is));
}

-- what may follow the pieces of the tree
abbrev pub IsSafePrinted : Expr → Type 0
IsSafePrinted e = IsSafeBefore (pieces_of e).1

aggregate_safe : (op : AggregateOp) (g : Option Grouping) (ps : List Piece) → IsSafeBefore ps
    → IsSafeBefore (written (aggregate_word op)
    ∷ (grouping_pieces g ++ bracketed ps))
aggregate_safe op g ps safe rest is =
    let arguments : List Piece = bracketed ps in
    before_free (aggregate_word op) ((grouping_pieces g ++ arguments) ++ rest)
    (both_free (grouping_pieces g) arguments (grouping_free g) (bracketed_free ps safe) rest is)

operator_safe : (op : BinaryOp) (boolean : Bool) (m : Option Matching) (ps qs : List Piece) → IsSafeBefore ps
    → IsSafeBefore qs → IsSafeBefore (ps ++ (operator_pieces op boolean m ++ qs))
operator_safe op boolean m ps qs left right =
    let ops : List Piece = operator_pieces op boolean m in
    both ps (ops ++ qs) left
    (λ rest is. rw (append_assoc ops qs rest) (operator_free op boolean m (qs ++ rest) (right rest is)))

sign_safe : (minus : Bool) (ps : List Piece) → IsSafeBefore ps
    → IsSafeBefore (written (sign_word minus) ∷ ps)
sign_safe true ps safe rest is = opens word.Minus (ps ++ rest) refl refl (safe rest is)
sign_safe false ps safe rest is = opens word.Plus (ps ++ rest) refl refl (safe rest is)

pub printed_safe : (W : Word → Type 0) → Inherited W IsSafePrinted
printed_safe W = printed_has W IsSafeBefore (record {
  none = none_safe;
  listed = listed_safe;
  brackets = λ ps safe rest is. (bracketed_free ps safe rest is).safe;
  number = λ z has. before_free (word.Number z);
  string = λ text has. before_free (word.Quoted text);
  selector = λ name ms range offset named are in_range in_offset.
      both (head_pieces name ms) (range_pieces range ++ offset_pieces offset) (head_safe name ms)
      (both_free (range_pieces range) (offset_pieces offset) (range_free range) (offset_free offset));
  sign = sign_safe;
  operator = λ op boolean m ps qs is left right. operator_safe op boolean m ps qs left right;
  call = λ function ps has safe rest is.
      before_free (word.Name keyword.Unreserved function) (bracketed ps ++ rest) (bracketed_free ps safe rest is);
  aggregate = λ op g ps is safe. aggregate_safe op g ps safe;
})

-- a whole text has nothing behind it
pub safe_alone : (e : Expr) → IsSafePrinted e → are_safe (pieces_of e).1 ≡ true
safe_alone e safe = ap are_safe (sym (append-nil (pieces_of e).1))
    ∙ safe [] (record { begins = refl; safe = refl })
