-- Where a tree has no type: the first node in post-order that has none, by the way down to it.
use Rattle.std.specs.Prelude.{◌≡◌, ℕ, ◌+◌, List, [], ◌∷◌, Option, Some, None, Result, Ok, Err, codes, decimal}
use Rattle.std.specs.List.{join_by}
use Rattle.ql_tree.specs.Children.{children_of}
use Rattle.ql_tree.specs.Typed.{rule_of}
use Rattle.ql_tree.specs.declared.tree.Expr.{Expr}
use Rattle.ql_tree.specs.declared.tree.Expr.TheOpen.{Expr-F}
use Rattle.ql_tree.specs.declared.tree.Expr.TheFolds.{fold-Expr}
use Rattle.ql_tree.specs.declared.types.Shape.{Shape}

-- what a tree is, or the numbers of the children on the way down to the first node that is nothing
abbrev pub Verdict : Type 0
Verdict = Result Shape (List ℕ)

-- a shape in front of the others, where none has failed
abbrev pub and_shapes : Shape → Result (List Shape) (List ℕ) → Result (List Shape) (List ℕ)
and_shapes s (Ok shapes) = Ok (s ∷ shapes)
and_shapes s (Err path) = Err path

-- what the children are, the first of these having that number, or the way down from the first that fails
abbrev pub verdicts_from : ℕ → List Verdict → Result (List Shape) (List ℕ)
verdicts_from number [] = Ok []
verdicts_from number (Ok s ∷ rest) = and_shapes s (verdicts_from (number + 1) rest)
verdicts_from number (Err path ∷ rest) = Err (number ∷ path)

-- the node itself fails where its rule gives nothing
abbrev pub here : Option Shape → Verdict
here None = Err []
here (Some s) = Ok s

-- a node's verdict: the failure of a child, or what its rule says of the children's shapes
abbrev pub node_verdict : (List Shape → Option Shape) → Result (List Shape) (List ℕ) → Verdict
node_verdict rule (Err path) = Err path
node_verdict rule (Ok shapes) = here (rule shapes)

-- the verdict of a node, of the verdicts of its children
abbrev pub verdict_step : Expr-F Verdict → Verdict
verdict_step node = node_verdict (rule_of node) (verdicts_from 0 (children_of node))

-- the verdict of a tree: its shape, or the way to the first node in post-order that has none
abbrev pub verdict_of : Expr → Verdict
verdict_of = fold-Expr Verdict verdict_step

-- the numbers joined by `.`
abbrev pub path_text : List ℕ → List ℕ
path_text numbers = join_by decimal (codes ".") numbers

-- the first node in post-order that has no type stands at the end of the path
abbrev pub IsUntypedAt : Expr → List ℕ → Type 0
IsUntypedAt e path = (numbers : List ℕ) × ((verdict_of e ≡ Err numbers) × (path ≡ path_text numbers))
