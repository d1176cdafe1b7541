-- The children of a node, and how deep a tree is.
use Rattle.std.specs.Prelude.{ℕ, ◌+◌, max, List, [], ◌∷◌, ◌++◌}
use Rattle.ql_tree.specs.declared.tree.Expr.{Expr}
use Rattle.ql_tree.specs.declared.tree.Expr.TheOpen.{Expr-F}
use Rattle.ql_tree.specs.declared.tree.Expr.TheFolds.{fold-Expr}

-- in text order; a child's number is its place in this list
abbrev pub children_of : {X : Type 0} → Expr-F X → List X
children_of (Expr-F.Number n) = []
children_of (Expr-F.Str text) = []
children_of (Expr-F.Select name matchers range offset) = []
children_of (Expr-F.Unary minus of) = of
children_of (Expr-F.Binary op boolean matching left right) = left ++ right
children_of (Expr-F.Call function args) = args
children_of (Expr-F.Aggregate op grouping param of) = param ++ of

-- the greatest of the numbers, 0 of none
abbrev pub greatest : List ℕ → ℕ
greatest [] = 0
greatest (n ∷ rest) = max n (greatest rest)

-- a node is one level deeper than its deepest child
abbrev pub depth_step : Expr-F ℕ → ℕ
depth_step node = 1 + greatest (children_of node)

-- how many nodes the longest way down the tree has: 1 for a tree of one node
abbrev pub depth_of : Expr → ℕ
depth_of = fold-Expr ℕ depth_step
