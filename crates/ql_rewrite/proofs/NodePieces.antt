-- What the pieces of each kind of node have where those of its parts do, the pieces of each tree have that
-- words spell.
use Rattle.std.proofs.Common.{◌≡◌, ℕ, ◌-◌, ℤ, Bool, true, false, List, [], ◌∷◌, ◌++◌, Option, map, nat_lt, if◌then◌else◌, ap, sym, subst, ◌∙◌, append_assoc, append-nil}
use Rattle.std.specs.List.{AllByRecursion as Each, flat_map, join_by}
use Rattle.op_base.specs.declared.matcher.Matcher.{Matcher}
use Rattle.op_base.specs.declared.span.Span.{Span}
use Rattle.ql_tree.specs.ClauseWords.{aggregate_word}
use Rattle.ql_tree.specs.Operators.{level_of, sign_word}
use Rattle.ql_tree.specs.Pieces.{Piece, written}
use Rattle.ql_tree.specs.Printed.{Leveled, placed, listed_pieces, pieces_step, pieces_of}
use Rattle.ql_tree.specs.PrintedParts.{bracketed, comma, selector_pieces, operator_pieces, grouping_pieces}
use Rattle.ql_tree.specs.declared.tree.AggregateOp.{AggregateOp}
use Rattle.ql_tree.specs.declared.tree.BinaryOp.{BinaryOp}
use Rattle.ql_tree.specs.declared.tree.Expr.{Expr}
use Rattle.ql_tree.specs.declared.tree.Expr.TheOpen.{Expr-F}
use Rattle.ql_tree.specs.declared.tree.Expr.TheViews.{out-Expr}
use Rattle.ql_tree.specs.declared.tree.Expr.TheFolds.{map-Expr, fold_out-Expr}
use Rattle.ql_tree.specs.declared.tree.Expr.TheVariants as expr
use Rattle.ql_tree.specs.declared.tree.Grouping.{Grouping}
use Rattle.ql_tree.specs.declared.tree.Matching.{Matching}
use Rattle.ql_tree.specs.declared.word.Keyword.TheVariants as keyword
use Rattle.ql_tree.specs.declared.word.Word.{Word}
use Rattle.ql_tree.specs.declared.word.Word.TheVariants as word
use Rattle.ql_tree.proofs.NodeLemmas.{out-Number, out-Str, out-Select, out-Unary, out-Binary, out-Call, out-Aggregate}
use Rattle.ql_tree.proofs.Inherited.{Inherited, IsMatching, IsGrouping, IsMatcher, IsNamed, IsRange, IsOffset}

-- the pieces of a tree by the node at its root
pub pieces_at : (e : Expr) (node : Expr-F Expr) → out-Expr e ≡ node
    → pieces_of e ≡ pieces_step (map-Expr Expr Leveled pieces_of node)
pieces_at e node is =
    fold_out-Expr Leveled pieces_step e ∙ ap (λ n. pieces_step (map-Expr Expr Leveled pieces_of n)) is

-- a list with what stands between each two
pub joined_has : {X : Type 0} (P : List Piece → Type 0) (f : X → List Piece) (between : List Piece) → P []
    → ((ps qs : List Piece) → P ps → P qs → P (ps ++ (between ++ qs))) → (xs : List X)
    → Each (λ x. P (f x)) xs → P (join_by f between xs)
joined_has P f between none more [] all = none
joined_has P f between none more (x ∷ []) all = subst P (sym (append-nil (f x))) all.0
joined_has P f between none more (x ∷ y ∷ xs) all =
    subst (λ qs. P (f x ++ qs)) (sym (append_assoc between (f y) (flat_map (λ z. between ++ f z) xs)))
    (more (f x) (join_by f between (y ∷ xs)) all.0 (joined_has P f between none more (y ∷ xs) all.1))

-- each kind of node has the property where its parts have it, and what is listed and bracketed has it
pub record OfPieces (W : Word → Type 0) (P : List Piece → Type 0) : Type 0 where
  pub none : P []
  pub listed : (ps qs : List Piece) → P ps → P qs → P (ps ++ (comma ++ qs))
  pub brackets : (ps : List Piece) → P ps → P (bracketed ps)
  pub number : (z : ℤ) → W (word.Number z) → P (written (word.Number z) ∷ [])
  pub string : (text : List ℕ) → W (word.Quoted text) → P (written (word.Quoted text) ∷ [])
  pub selector : (name : Option (List ℕ)) (ms : List Matcher) (range offset : Option Span)
      → IsNamed W name ms → Each IsMatcher ms → IsRange W range → IsOffset W offset
      → P (selector_pieces name ms range offset)
  pub sign : (minus : Bool) (ps : List Piece) → P ps → P (written (sign_word minus) ∷ ps)
  pub operator : (op : BinaryOp) (boolean : Bool) (m : Option Matching) (ps qs : List Piece) → IsMatching m
      → P ps → P qs → P (ps ++ (operator_pieces op boolean m ++ qs))
  pub call : (function : List ℕ) (ps : List Piece) → W (word.Name keyword.Unreserved function) → P ps
      → P (written (word.Name keyword.Unreserved function) ∷ bracketed ps)
  pub aggregate : (op : AggregateOp) (g : Option Grouping) (ps : List Piece) → IsGrouping g → P ps
      → P (written (aggregate_word op) ∷ (grouping_pieces g ++ bracketed ps))

module _ (W : Word → Type 0) (P : List Piece → Type 0) (parts : OfPieces W P) where
  by_node : (e : Expr) (node : Expr-F Expr) → out-Expr e ≡ node
      → P (pieces_step (map-Expr Expr Leveled pieces_of node)).1 → P (pieces_of e).1
  by_node e node is has = subst (λ (p : Leveled). P p.1) (sym (pieces_at e node is)) has

  placed_has : (k : ℕ) (p : Leveled) → P p.1 → P (placed k p)
  placed_has k p has =
      elim (nat_lt k p.0) as (λ looser. P (if looser then bracketed p.1 else p.1)) [
        | true ↦ parts.brackets p.1 has
        | false ↦ has
      ]

  listed_has : (es : List Expr) → Each (λ e. P (pieces_of e).1) es → P (listed_pieces (map pieces_of es))
  listed_has es all =
      joined_has P (λ (p : Leveled). p.1) comma parts.none parts.listed (map pieces_of es) (each es all)
    where
      each : (trees : List Expr) → Each (λ e. P (pieces_of e).1) trees
          → Each (λ (p : Leveled). P p.1) (map pieces_of trees)
      each [] are = tt
      each (e ∷ trees) are = (are.0, each trees are.1)

  pub printed_has : Inherited W (λ e. P (pieces_of e).1)
  printed_has = record {
    number = λ z has. by_node (expr.Number z) (Expr-F.Number z) (out-Number z) (parts.number z has);
    string = λ text has. by_node (expr.Str text) (Expr-F.Str text) (out-Str text) (parts.string text has);
    selector = λ name ms range offset named are values in_range in_offset.
        by_node (expr.Select name ms range offset) (Expr-F.Select name ms range offset)
        (out-Select name ms range offset) (parts.selector name ms range offset named are in_range in_offset);
    sign = λ minus e is. by_node (expr.Unary minus (e ∷ [])) (Expr-F.Unary minus (e ∷ []))
        (out-Unary minus (e ∷ [])) (parts.sign minus (placed 0 (pieces_of e)) (placed_has 0 (pieces_of e) is));
    operator = λ op boolean m l r may is left right.
        by_node (expr.Binary op boolean m (l ∷ []) (r ∷ [])) (Expr-F.Binary op boolean m (l ∷ []) (r ∷ []))
        (out-Binary op boolean m (l ∷ []) (r ∷ []))
        (parts.operator op boolean m (placed (level_of op) (pieces_of l)) (placed (level_of op - 1) (pieces_of r)) is
        (placed_has (level_of op) (pieces_of l) left) (placed_has (level_of op - 1) (pieces_of r) right));
    call = λ function args has are. by_node (expr.Call function args) (Expr-F.Call function args)
        (out-Call function args) (parts.call function (listed_pieces (map pieces_of args)) has (listed_has args are));
    aggregate = λ op g e is of. by_node (expr.Aggregate op g [] (e ∷ [])) (Expr-F.Aggregate op g [] (e ∷ []))
        (out-Aggregate op g [] (e ∷ []))
        (parts.aggregate op g (listed_pieces (pieces_of e ∷ [])) is (listed_has (e ∷ []) (of, tt)));
    aggregate_param = λ op g p e is first of.
        by_node (expr.Aggregate op g (p ∷ []) (e ∷ [])) (Expr-F.Aggregate op g (p ∷ []) (e ∷ []))
        (out-Aggregate op g (p ∷ []) (e ∷ []))
        (parts.aggregate op g (listed_pieces (pieces_of p ∷ pieces_of e ∷ [])) is
        (listed_has (p ∷ e ∷ []) (first, (of, tt))));
  }
