-- The readers of the code, with what they read between brackets, and the depth that stands beside a tree that
-- was read. Contracts of the crate's own calls cite these.
use Rattle.std.specs.Prelude.{◌≡◌, ℕ, ◌+◌, ◌≤◌, List, [], ◌∷◌, Option, Some}
use Rattle.ql_tree.specs.Children.{depth_of}
use Rattle.ql_tree.specs.declared.tree.AggregateOp.{AggregateOp}
use Rattle.ql_tree.specs.declared.tree.Expr.{Expr}
use Rattle.ql_tree.specs.declared.tree.Grouping.{Grouping}
use Rattle.ql_tree.specs.declared.word.Word.{Word}
use Rattle.ql_parse.specs.Found.{Found, Reader, ◌>>=◌}
use Rattle.ql_parse.specs.ReadTerms.{Operated, atom, name, call, call_arguments, operands, grouping_behind, aggregated, aggregate, closed}
use Rattle.ql_parse.specs.Reading.{chain, level, within}

-- the depth is the tree's own, and at most d
abbrev pub IsDepth : ℕ → Expr → ℕ → Type 0
IsDepth d e depth = (depth ≡ depth_of e) × (depth ≤ d)

-- what stands between operators and signs, where n brackets may be opened
abbrev pub atom_in : ℕ → ℕ → Reader Expr
atom_in n d = atom n (within n) d

-- operators up to the level k, and what is between them
abbrev pub operand : ℕ → ℕ → ℕ → Reader Expr
operand k n d = level k n (atom n (within n)) d

-- operators of the level behind k, at most m
abbrev pub chained : ℕ → ℕ → ℕ → ℕ → Expr → Reader Expr
chained k n d m left = chain m n d (k + 1) (operand k n d) left

-- an expression up to its closing bracket
abbrev pub bracketed : ℕ → ℕ → Reader Expr
bracketed n d ts = within n d ts >>= λ e. closed e.0 e.1

-- what begins with a name
abbrev pub name_in : ℕ → ℕ → List ℕ → Reader Expr
name_in n d text = name n (within n d) d text

-- a call of the function
abbrev pub call_of : ℕ → ℕ → List ℕ → Reader Expr
call_of n d function = call n (within n d) d function

-- the arguments of a call
abbrev pub arguments_in : ℕ → ℕ → Reader (List Expr)
arguments_in n d = call_arguments (within n d)

-- the operands of an aggregate
abbrev pub operands_in : ℕ → ℕ → Reader Operated
operands_in n d = operands (within n d)

-- an aggregate with its operands
abbrev pub aggregate_in : ℕ → ℕ → AggregateOp → Reader Expr
aggregate_in n d op = aggregate n (within n d) d op

-- the only operand of an aggregate, and the bracket that closes behind it
abbrev pub alone_in : Expr → Reader Operated
alone_in of ts = closed {A = Operated} ([], of) ts

-- a parameter and an operand
abbrev pub both_in : Expr → Expr → Reader Operated
both_in param of ts = Some ((param ∷ [], of), ts)

-- the same, where the operand was read
abbrev pub with_param : Expr → Expr × List Word → Found Operated
with_param param of = both_in param of.0 of.1

-- an aggregate behind its operands
abbrev pub grouped_in : ℕ → ℕ → AggregateOp → Operated → Option Grouping → Reader Expr
grouped_in n d op of before ts = grouping_behind n before ts >>= aggregated d op of
