-- The reading of words: for each list of words the tree that it spells, found from its front on. `n`
-- is how many round brackets may still be opened where the words stand, `d` how deep a tree may be.
use Rattle.std.specs.Prelude.{ℕ, zero, suc, Bool, List, [], ◌∷◌, Option, Some, None, length}
use Rattle.ql_tree.specs.Operators.{is_comparison, sign_of}
use Rattle.ql_tree.specs.declared.tree.BinaryOp.{BinaryOp}
use Rattle.ql_tree.specs.declared.tree.Expr.{Expr}
use Rattle.ql_tree.specs.declared.tree.Expr.TheVariants as expr
use Rattle.ql_tree.specs.declared.word.Word.{Word}
use Rattle.ql_parse.specs.Found.{Found, Reader, ◌>>=◌, first, fitting}
use Rattle.ql_parse.specs.FrontWords.{operator_at}
use Rattle.ql_parse.specs.ReadClauses.{matching, boolean}
use Rattle.ql_parse.specs.ReadTerms.{atom}

-- the tree with the sign before it
abbrev pub under_sign : Bool → Expr × List Word → Found Expr
under_sign minus e = Some (expr.Unary minus (e.0 ∷ []), e.1)

-- a sign and what `again` reads, or what `operand` does
abbrev pub sign_at : Reader Expr → Reader Expr → List Word → Option (Bool × List Word) → Found Expr
sign_at again operand ts None = operand ts
sign_at again operand ts (Some sign) = again sign.1 >>= under_sign sign.0

-- signs before an atom; each makes the tree deeper by one
unfoldable pub signed : (ℕ → Reader Expr) → ℕ → Reader Expr
signed atom zero ts = None
signed atom (suc d) ts = sign_at (signed atom d) (atom (suc d)) ts (first sign_of ts)

-- what stands behind a binary operator, and the tree of both sides
unfoldable pub right : ℕ → ℕ → Reader Expr → Expr → BinaryOp → Bool × List Word → Found Expr
right n d operand left op boolean =
    matching n boolean.1
    >>= λ m. operand m.1
    >>= λ of. fitting d (expr.Binary op boolean.0 m.0 (left ∷ []) (of.0 ∷ [])) of.1

-- one operator and its right operand, and then `again`; or nothing more
abbrev pub turn
    : (Expr → Reader Expr) → ℕ → ℕ → Reader Expr → Expr → List Word
    → Option (BinaryOp × List Word) → Found Expr
turn again n d operand left ts None = Some (left, ts)
turn again n d operand left ts (Some op) =
    right n d operand left op.0 (boolean (is_comparison op.0) op.1) >>= λ e. again e.0 e.1

-- operators of the level k with their right operands, from left to right; at most m
unfoldable pub chain : ℕ → ℕ → ℕ → ℕ → Reader Expr → Expr → Reader Expr
chain zero n d k operand left ts = Some (left, ts)
chain (suc m) n d k operand left ts =
    turn (chain m n d k operand) n d operand left ts (first (operator_at k) ts)

-- the levels of precedence: signs, `* / %`, `+ -`, comparisons, `and unless`, `or`
unfoldable pub level : ℕ → ℕ → (ℕ → Reader Expr) → ℕ → Reader Expr
level zero n atom d ts = signed atom d ts
level (suc k) n atom d ts =
    level k n atom d ts
    >>= λ left. chain (length left.1) n d (suc k) (level k n atom d) left.0 left.1

-- a tree, with at most n - 1 round brackets open at any place
unfoldable pub within : ℕ → ℕ → Reader Expr
within zero d ts = None
within (suc n) d ts = level 5 n (atom n (within n)) d ts

-- what was read, where no word is left
abbrev pub whole : Found Expr → Option Expr
whole None = None
whole (Some (e, [])) = Some e
whole (Some (e, w ∷ ts)) = None

-- the tree that the words spell, with at most 400 open brackets at any place and a depth of at most
-- 200
unfoldable pub read : List Word → Option Expr
read ts = whole (within 401 200 ts)
