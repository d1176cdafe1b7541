-- The text that printing gives: single blanks, lower-case operators, and no bracket that isn't needed.
--
-- It is the bytes of the words that the tree is printed with, and of the blanks between them.
use Rattle.std.specs.Prelude.{ℕ, ◌-◌, List, [], ◌∷◌, ◌++◌, nat_lt, if◌then◌else◌}
use Rattle.std.specs.List.{join_by}
use Rattle.ql_tree.specs.ClauseWords.{aggregate_word}
use Rattle.ql_tree.specs.Operators.{level_of, sign_word}
use Rattle.ql_tree.specs.Pieces.{Piece, written, text_of}
use Rattle.ql_tree.specs.PrintedParts.{bracketed, comma, selector_pieces, operator_pieces, grouping_pieces}
use Rattle.ql_tree.specs.declared.tree.Expr.{Expr}
use Rattle.ql_tree.specs.declared.tree.Expr.TheOpen.{Expr-F}
use Rattle.ql_tree.specs.declared.tree.Expr.TheFolds.{fold-Expr}
use Rattle.ql_tree.specs.declared.word.Keyword.TheVariants as keyword
use Rattle.ql_tree.specs.declared.word.Word.TheVariants as word

-- a tree's level, which is 0 for all but binary ones, and its pieces
abbrev pub Leveled : Type 0
Leveled = ℕ × List Piece

-- in brackets where the level is looser than k
abbrev pub placed : ℕ → Leveled → List Piece
placed k p = if nat_lt k p.0 then bracketed p.1 else p.1

-- the operand at a place where the level may be k at most: the first child there, which is the only
-- one in each tree that some text spells
abbrev pub operand_pieces : ℕ → List Leveled → List Piece
operand_pieces k [] = []
operand_pieces k (p ∷ rest) = placed k p

-- trees with a comma and a blank between each two
abbrev pub listed_pieces : List Leveled → List Piece
listed_pieces ps = join_by (λ p. p.1) comma ps

-- the pieces of a node, of those of its children
abbrev pub pieces_step : Expr-F Leveled → Leveled
pieces_step (Expr-F.Number n) = (0, written (word.Number n) ∷ [])
pieces_step (Expr-F.Str text) = (0, written (word.Quoted text) ∷ [])
pieces_step (Expr-F.Select name matchers range offset) = (0, selector_pieces name matchers range offset)
pieces_step (Expr-F.Unary minus of) = (0, written (sign_word minus) ∷ operand_pieces 0 of)
pieces_step (Expr-F.Binary op boolean m left right) =
    (level_of op, operand_pieces (level_of op) left ++ (operator_pieces op boolean m ++ operand_pieces (level_of op - 1) right))
pieces_step (Expr-F.Call function args) =
    (0, written (word.Name keyword.Unreserved function) ∷ bracketed (listed_pieces args))
pieces_step (Expr-F.Aggregate op grouping param of) =
    (0, written (aggregate_word op) ∷ (grouping_pieces grouping ++ bracketed (listed_pieces (param ++ of))))

-- a tree's level and its pieces, node by node
abbrev pub pieces_of : Expr → Leveled
pieces_of = fold-Expr Leveled pieces_step

-- the text that printing gives
unfoldable pub printed : Expr → List ℕ
printed e = text_of (pieces_of e).1
