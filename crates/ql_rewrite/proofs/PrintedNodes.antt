-- The words of a printed tree spell it, and no more brackets are open in them than the tree is deep:
-- a bracket opens round an operand, or round what a call or an aggregate is of, or round labels beside
-- those.
use Rattle.std.proofs.Common.{◌≡◌, ℕ, zero, suc, ◌+◌, ◌-◌, ◌<◌, ◌≤◌, inl, inr, Bool, true, false, List, [], ◌∷◌, ◌++◌, Option, Some, None, map, nat_lt, codes, if◌then◌else◌, refl, ap, sym, subst, subst₂, ◌∙◌, zero-le, append-nil, append_assoc, ltb-false, eq-or-lt_of_le, le_of_suc-le-suc, arith}
use Rattle.std.specs.List.{AllByRecursion as Each}
use Rattle.ql_tree.specs.Children.{children_of, greatest, depth_of}
use Rattle.ql_tree.specs.ClauseWords.{aggregate_word}
use Rattle.ql_tree.specs.PrintedParts.{bracketed, comma, matching_pieces, bool_pieces, operator_pieces, grouping_pieces}
use Rattle.ql_tree.specs.Operators.{level_of, is_comparison, operator_word, sign_word}
use Rattle.ql_tree.specs.Pieces.{Piece, written}
use Rattle.ql_tree.specs.Printed.{Leveled, placed, listed_pieces, pieces_step, pieces_of}
use Rattle.ql_tree.specs.Spells.{Spelling, begins_open, BoolOf, Chain, Signed, Arguments, Operands, Atom, levels, Within}
use Rattle.ql_tree.specs.declared.tree.AggregateOp.{AggregateOp}
use Rattle.ql_tree.specs.declared.tree.BinaryOp.{BinaryOp}
use Rattle.ql_tree.specs.declared.tree.Expr.{Expr}
use Rattle.ql_tree.specs.declared.tree.Expr.TheOpen.{Expr-F}
use Rattle.ql_tree.specs.declared.tree.Expr.TheViews.{out-Expr}
use Rattle.ql_tree.specs.declared.tree.Expr.TheFolds.{map-Expr}
use Rattle.ql_tree.specs.declared.tree.Expr.TheVariants as expr
use Rattle.ql_tree.specs.declared.tree.Grouping.{Grouping}
use Rattle.ql_tree.specs.declared.tree.Matching.{Matching}
use Rattle.ql_tree.specs.declared.word.Word.{Word}
use Rattle.ql_tree.specs.declared.word.Word.TheVariants as word
use Rattle.ql_tree.proofs.NodeLemmas.{depth_out, out-Number, out-Str, out-Select, out-Unary, out-Binary, out-Call, out-Aggregate}
use Rattle.ql_tree.proofs.Inherited.{Inherited, IsMatching, IsGrouping}
use Rattle.ql_rewrite.proofs.NodePieces.{pieces_at}
use Rattle.ql_rewrite.proofs.PrintedWords.{operator_is, aggregate_is, sign_is}
use Rattle.ql_rewrite.proofs.Written.{words_of}
use Rattle.ql_rewrite.proofs.PrintedClauses.{words-append, before_last, matching_spelled, grouping_words, words-grouping, grouping_spelled, selector_spelled}

-- what is spelled at a level where so many brackets may be opened
abbrev pub AtLevel : ℕ → ℕ → Spelling
AtLevel m k = levels m k (Atom m (Within m))

-- the words spell the tree at their level, wherever as many brackets may be opened as are asked for
abbrev pub IsSpelledBy : Expr → Leveled → ℕ → Type 0
IsSpelledBy e p brackets = (p.0 ≤ 5) × ((m : ℕ) → brackets ≤ m → AtLevel m p.0 e (words_of p.1))

abbrev pub IsPrinted : Expr → Type 0
IsPrinted e = IsSpelledBy e (pieces_of e) (depth_of e)

-- a looser level has what a tighter one has
pub rise_to : (m k j : ℕ) (e : Expr) (ts : List Word) → k ≤ j → AtLevel m k e ts → AtLevel m j e ts
rise_to m k zero e ts le is = let same : k ≡ 0 = omega arith in subst (λ i. AtLevel m i e ts) same is
rise_to m k (suc j) e ts le is = elim (eq-or-lt_of_le le) [
  | inl same ↦ subst (λ i. AtLevel m i e ts) same is
  | inr less ↦ Chain.one e ts (rise_to m k j e ts (le_of_suc-le-suc less) is)
]

within_more : (n : ℕ) (e : Expr) (ts : List Word) → AtLevel n 5 e ts → Within (suc n) e ts
unfolding Within
within_more n e ts is = is

-- the words between brackets
pub inside : (m d : ℕ) (e : Expr) (p : Leveled) → IsSpelledBy e p d → d < m
    → Within m e (words_of p.1)
inside zero d e p is less = absurd (omega arith)
inside (suc n) d e p is less =
    within_more n e (words_of p.1)
    (rise_to n p.0 5 e (words_of p.1) is.0 (is.1 n (le_of_suc-le-suc less)))

-- an operand at a place where the level may be k at most
placed_by : (m d k : ℕ) (e : Expr) (p : Leveled) (looser : Bool) → IsSpelledBy e p d → d < m
    → nat_lt k p.0 ≡ looser
    → AtLevel m k e (words_of
    (if looser then bracketed p.1 else p.1))
placed_by m d k e p true is less test =
    rw (before_last p.1 word.Close)
    (rise_to m 0 k e (word.Open ∷ (words_of p.1 ++ (word.Close ∷ []))) zero-le
    (Signed.atom e (word.Open ∷ (words_of p.1 ++ (word.Close ∷ [])))
    (Atom.bracketed e (words_of p.1) (inside m d e p is less))))
placed_by m d k e p false is less test =
    rise_to m p.0 k e (words_of p.1) (ltb-false k p.0 test) (is.1 m (omega arith))

placed_spelled : (m k : ℕ) (e : Expr) → IsPrinted e → depth_of e < m
    → AtLevel m k e (words_of (placed k (pieces_of e)))
placed_spelled m k e is less =
    placed_by m (depth_of e) k e (pieces_of e) (nat_lt k (pieces_of e).0) is less refl

bool_spelled : (comparison boolean : Bool) → (boolean ≡ true → comparison ≡ true)
    → BoolOf comparison boolean (words_of (bool_pieces boolean))
bool_spelled comparison true may = BoolOf.given (codes "bool") (may refl)
bool_spelled comparison false may = BoolOf.none

words-operator : (ls rs : List Piece) (op : BinaryOp) (boolean : Bool) (m : Option Matching)
    → words_of (ls ++ (operator_pieces op boolean m ++ rs))
    ≡ words_of ls ++ (operator_word op ∷ (words_of (bool_pieces boolean) ++ (words_of (matching_pieces m) ++ words_of rs)))
words-operator ls rs op boolean m = simp (words-append, append_assoc)

operator_spelled : (m : ℕ) (op : BinaryOp) (boolean : Bool) (matching : Option Matching) (l r : Expr)
    → (boolean ≡ true → is_comparison op ≡ true) → IsMatching matching → IsPrinted l → IsPrinted r
    → 1 + greatest (depth_of l ∷ depth_of r ∷ []) ≤ m
    → AtLevel m (level_of op) (expr.Binary op boolean matching (l ∷ []) (r ∷ []))
    (words_of (pieces_step
    (Expr-F.Binary op boolean matching (pieces_of l ∷ []) (pieces_of r ∷ []))).1)
operator_spelled m op boolean matching l r may is left right le =
    let level : level_of op ≡ suc (level_of op - 1) = (operator_is op).level in
    let us : List Word = words_of (placed (level_of op - 1) (pieces_of r)) in
    rw (words-operator (placed (level_of op) (pieces_of l)) (placed (level_of op - 1) (pieces_of r)) op boolean matching)
    (subst (λ k. AtLevel m k (expr.Binary op boolean matching (l ∷ []) (r ∷ []))
    (words_of (placed (level_of op) (pieces_of l))
    ++ (operator_word op ∷ (words_of (bool_pieces boolean)
    ++ (words_of (matching_pieces matching) ++ us)))))
    (sym level)
    (Chain.more (operator_word op) op boolean matching l r
    (words_of (placed (level_of op) (pieces_of l))) (words_of (bool_pieces boolean))
    (words_of (matching_pieces matching)) us (operator_is op).read level
    (subst (λ k. AtLevel m k l (words_of (placed (level_of op) (pieces_of l)))) level
    (placed_spelled m (level_of op) l left (omega arith)))
    (bool_spelled (is_comparison op) boolean may)
    (matching_spelled m (begins_open us) matching (omega arith) is)
    (placed_spelled m (level_of op - 1) r right (omega arith))))

words-listed : (p q : Leveled) (ps : List Leveled)
    → words_of (listed_pieces (p ∷ q ∷ ps)) ≡ words_of p.1 ++ (word.Comma ∷ words_of (listed_pieces (q ∷ ps)))
words-listed p q ps = words-append p.1 (comma ++ listed_pieces (q ∷ ps))

arguments_spelled : (m : ℕ) (e : Expr) (es : List Expr) → Each IsPrinted (e ∷ es)
    → greatest (map depth_of (e ∷ es)) < m
    → Arguments (Within m) (e ∷ es) (words_of (listed_pieces (map pieces_of (e ∷ es))))
arguments_spelled m e [] are less =
    rw (append-nil (pieces_of e).1)
    (Arguments.last e (words_of (pieces_of e).1)
    (inside m (depth_of e) e (pieces_of e) are.0 (omega arith)))
arguments_spelled m e (f ∷ es) are less =
    rw (words-listed (pieces_of e) (pieces_of f) (map pieces_of es))
    (Arguments.more e (f ∷ es) (words_of (pieces_of e).1)
    (words_of (listed_pieces (map pieces_of (f ∷ es))))
    (inside m (depth_of e) e (pieces_of e) are.0 (omega arith))
    (arguments_spelled m f es are.1 (omega arith)))

call_spelled : (m : ℕ) (function : List ℕ) (args : List Expr) → Each IsPrinted args
    → 1 + greatest (map depth_of args) ≤ m
    → Atom m (Within m) (expr.Call function args)
    (words_of (pieces_step (Expr-F.Call function (map pieces_of args))).1)
call_spelled m function [] are le = Atom.empty_call function (omega arith)
call_spelled m function (e ∷ es) are le =
    rw (before_last (listed_pieces (map pieces_of (e ∷ es))) word.Close)
    (Atom.call function (e ∷ es) (words_of (listed_pieces (map pieces_of (e ∷ es))))
    (arguments_spelled m e es are (omega arith)))

aggregate_spelled : (m : ℕ) (op : AggregateOp) (g : Option Grouping) (param : List Expr) (e : Expr)
    (ps : List Piece) → 0 < m
    → IsGrouping g → Operands (Within m) param e (words_of ps)
    → Atom m (Within m) (expr.Aggregate op g param (e ∷ []))
    (words_of (written (aggregate_word op) ∷ (grouping_pieces g ++ bracketed ps)))
aggregate_spelled m op None param e ps some is are =
    rw (before_last ps word.Close)
    (Atom.aggregate (aggregate_word op) op param e (words_of ps) (aggregate_is op).0 are)
aggregate_spelled m op (Some g) param e ps some is are =
    rw (words-grouping g (bracketed ps))
    (rw (before_last ps word.Close)
    (Atom.grouped_before (aggregate_word op) op g param e (grouping_words g) (words_of ps) (aggregate_is op).0
    (grouping_spelled m g some is) are))

alone_spelled : (m : ℕ) (e : Expr) → IsPrinted e → depth_of e < m
    → Operands (Within m) [] e (words_of (listed_pieces (pieces_of e ∷ [])))
alone_spelled m e is less =
    rw (append-nil (pieces_of e).1)
    (Operands.alone e (words_of (pieces_of e).1) (inside m (depth_of e) e (pieces_of e) is less))

param_spelled : (m : ℕ) (p e : Expr) → IsPrinted p → IsPrinted e → depth_of p < m → depth_of e < m
    → Operands (Within m) (p ∷ []) e (words_of (listed_pieces (pieces_of p ∷ pieces_of e ∷ [])))
param_spelled m p e is is_e less less_e =
    rw (words-listed (pieces_of p) (pieces_of e) [])
    (rw (append-nil (pieces_of e).1)
    (Operands.param p e (words_of (pieces_of p).1) (words_of (pieces_of e).1)
    (inside m (depth_of p) p (pieces_of p) is less)
    (inside m (depth_of e) e (pieces_of e) is_e less_e)))

-- the depth of a tree by the node at its root
depth_at : (e : Expr) (node : Expr-F Expr) → out-Expr e ≡ node
    → depth_of e ≡ 1 + greatest (map depth_of (children_of node))
depth_at e node is = depth_out e ∙ ap (λ n. 1 + greatest (map depth_of (children_of n))) is

printed_by : (e : Expr) (node : Expr-F Expr) → out-Expr e ≡ node
    → IsSpelledBy e (pieces_step (map-Expr Expr Leveled pieces_of node))
    (1 + greatest (map depth_of (children_of node))) → IsPrinted e
printed_by e node is spelled =
    subst₂ (IsSpelledBy e) (sym (pieces_at e node is)) (sym (depth_at e node is)) spelled

-- the words of a tree that is spelled spell it
pub printed_spells : (W : Word → Type 0) → Inherited W IsPrinted
printed_spells W = record {
  number = λ z has. printed_by (expr.Number z) (Expr-F.Number z) (out-Number z)
      (zero-le, λ m le. Signed.atom (expr.Number z) (word.Number z ∷ []) (Atom.number z));
  string = λ text has. printed_by (expr.Str text) (Expr-F.Str text) (out-Str text)
      (zero-le, λ m le. Signed.atom (expr.Str text) (word.Quoted text ∷ []) (Atom.string text));
  selector = λ name ms range offset named are values in_range in_offset.
      printed_by (expr.Select name ms range offset) (Expr-F.Select name ms range offset)
      (out-Select name ms range offset) (
        zero-le,
        λ m le. Signed.atom _ _
            (Atom.selector _ _ (selector_spelled W name ms range offset named are in_range)),
      );
  sign = λ minus e is. printed_by (expr.Unary minus (e ∷ [])) (Expr-F.Unary minus (e ∷ []))
      (out-Unary minus (e ∷ [])) (
        zero-le,
        λ m le. Signed.sign (sign_word minus) minus e (words_of (placed 0 (pieces_of e))) (sign_is minus).0
            (placed_spelled m 0 e is (omega arith)),
      );
  operator = λ op boolean matching l r may is left right.
      printed_by (expr.Binary op boolean matching (l ∷ []) (r ∷ []))
      (Expr-F.Binary op boolean matching (l ∷ []) (r ∷ []))
      (out-Binary op boolean matching (l ∷ []) (r ∷ [])) (
        (operator_is op).loosest,
        λ m le. operator_spelled m op boolean matching l r may is left
            right le,
      );
  call = λ function args has are. printed_by (expr.Call function args) (Expr-F.Call function args)
      (out-Call function args)
      (zero-le, λ m le. Signed.atom _ _ (call_spelled m function args are le));
  aggregate = λ op g e is of. printed_by (expr.Aggregate op g [] (e ∷ []))
      (Expr-F.Aggregate op g [] (e ∷ [])) (out-Aggregate op g [] (e ∷ [])) (
        zero-le,
        λ m le. Signed.atom _ _ (aggregate_spelled m op g [] e (listed_pieces (pieces_of e ∷ [])) (omega arith) is
            (alone_spelled m e of (omega arith))),
      );
  aggregate_param = λ op g p e is first of.
      printed_by (expr.Aggregate op g (p ∷ []) (e ∷ [])) (Expr-F.Aggregate op g (p ∷ []) (e ∷ []))
      (out-Aggregate op g (p ∷ []) (e ∷ [])) (
        zero-le,
        λ m le. Signed.atom _ _
            (aggregate_spelled m op g (p ∷ []) e (listed_pieces (pieces_of p ∷ pieces_of e ∷ [])) (omega arith) is
            (param_spelled m p e first of (omega arith) (omega arith))),
      );
}
