-- The reading of what stands between operators and signs. `n` is how many round brackets may still
-- be opened where the words stand, `d` how deep a tree may be, at least 1. `inside` reads what stands
-- between brackets.
use Rattle.std.specs.Prelude.{ℕ, zero, suc, List, [], ◌∷◌, Option, Some, None, nat_lt, length, if◌then◌else◌}
use Rattle.ql_tree.specs.declared.tree.AggregateOp.{AggregateOp}
use Rattle.ql_tree.specs.declared.tree.Expr.{Expr}
use Rattle.ql_tree.specs.declared.tree.Expr.TheVariants as expr
use Rattle.ql_tree.specs.declared.tree.Grouping.{Grouping}
use Rattle.ql_tree.specs.declared.word.Keyword.TheVariants as keyword
use Rattle.ql_tree.specs.declared.word.Word.{Word}
use Rattle.ql_tree.specs.declared.word.Word.TheVariants as word
use Rattle.ql_parse.specs.CommaLists.{followed}
use Rattle.ql_parse.specs.Found.{Found, Reader, ◌>>=◌, ended, fitting}
use Rattle.ql_parse.specs.FrontWords.{beyond}
use Rattle.ql_parse.specs.ReadClauses.{grouping}
use Rattle.ql_parse.specs.ReadSelectors.{selector}

-- what was read, and then a bracket that closes
abbrev pub closed : {A : Type 0} → A → List Word → Found A
closed x ts = beyond word.Close ts >>= λ rest. Some (x, rest)

-- one argument or more with a comma between each two, and the bracket that closes them; at most m
unfoldable pub arguments : ℕ → Reader Expr → Reader (List Expr)
arguments zero inside ts = None
arguments (suc m) inside ts = inside ts >>= followed word.Close (arguments m inside)

-- behind a call's bracket: its arguments, or none
unfoldable pub call_arguments : Reader Expr → Reader (List Expr)
call_arguments inside ts = ended (beyond word.Close ts) (arguments (length ts) inside ts)

-- a call, behind its bracket
unfoldable pub call : ℕ → Reader Expr → ℕ → List ℕ → Reader Expr
call n inside d function ts =
    if nat_lt 0 n
    then (call_arguments inside ts >>= λ args. fitting d (expr.Call function args.0) args.1)
    else None

-- an aggregate's parameter, if it has one, and what it is of
abbrev pub Operated : Type 0
Operated = List Expr × Expr

-- behind the first operand, by the words behind a comma, if it stands in front
abbrev pub operands_behind : Reader Expr → Expr → List Word → Option (List Word) → Found Operated
operands_behind inside e ts None = closed ([], e) ts
operands_behind inside e ts (Some us) = inside us >>= λ of. closed (e ∷ [], of.0) of.1

-- an operand or, with a comma between them, a parameter and an operand; and the bracket that closes
-- them
unfoldable pub operands : Reader Expr → Reader Operated
operands inside ts = inside ts >>= λ e. operands_behind inside e.0 e.1 (beyond word.Comma e.1)

-- behind an aggregate's operands: a grouping clause, where none stood before
unfoldable pub grouping_behind : ℕ → Option Grouping → Reader (Option Grouping)
grouping_behind n None ts = grouping n ts
grouping_behind n (Some g) ts = Some (Some g, ts)

-- the aggregate with its clause
abbrev pub aggregated : ℕ → AggregateOp → Operated → Option Grouping × List Word → Found Expr
aggregated d op of g = fitting d (expr.Aggregate op g.0 of.0 (of.1 ∷ [])) g.1

-- an aggregate, behind its word
unfoldable pub aggregate : ℕ → Reader Expr → ℕ → AggregateOp → Reader Expr
aggregate n inside d op ts =
    grouping n ts
    >>= λ before. beyond word.Open before.1 >>= operands inside
    >>= λ of. grouping_behind n before.0 of.1 >>= aggregated d op of.0

-- behind a name, by the words behind `(`, if it stands in front: a call, else a selector
abbrev pub name_at
    : ℕ → Reader Expr → ℕ → List ℕ → List Word → Option (List Word) → Found Expr
name_at n inside d text ts None = selector (word.Name keyword.Unreserved text ∷ ts)
name_at n inside d text ts (Some us) = call n inside d text us

-- a name: a call where a bracket follows, else a selector
unfoldable pub name : ℕ → Reader Expr → ℕ → List ℕ → Reader Expr
name n inside d text ts = name_at n inside d text ts (beyond word.Open ts)

-- what stands between operators and signs
unfoldable pub atom : ℕ → (ℕ → Reader Expr) → ℕ → Reader Expr
atom n inside d [] = None
atom n inside d (word.Number z ∷ ts) = Some (expr.Number z, ts)
atom n inside d (word.Quoted text ∷ ts) = Some (expr.Str text, ts)
atom n inside d (word.Open ∷ ts) = inside d ts >>= λ e. closed e.0 e.1
atom n inside d (word.OpenBrace ∷ ts) = selector (word.OpenBrace ∷ ts)
atom n inside d (word.Name keyword.Unreserved text ∷ ts) = name n (inside d) d text ts
atom n inside d (word.Name (keyword.Aggregate op) text ∷ ts) = aggregate n (inside d) d op ts
atom n inside d (w ∷ ts) = None
