-- Enforcement of a label: every selector's matchers on the label are removed, and `name="value"` is
-- put behind the others.
use Rattle.std.specs.Prelude.{ℕ, Bool, true, false, List, [], ◌∷◌, ◌++◌, Option, Some, None, ◌&&◌, not, bytes_eq}
use Rattle.std.specs.List.{filter, flat_map}
use Rattle.op_base.specs.declared.matcher.Matcher.{Matcher}
use Rattle.op_base.specs.declared.matcher.MatchOp.{MatchOp}
use Rattle.op_base.specs.declared.matcher.MatchOp.TheVariants.{Eq}
use Rattle.ql_tree.specs.Children.{children_of}
use Rattle.ql_tree.specs.declared.tree.Expr.{Expr}
use Rattle.ql_tree.specs.declared.tree.Expr.TheOpen.{Expr-F}
use Rattle.ql_tree.specs.declared.tree.Expr.TheFolds.{fold-Expr}
use Rattle.ql_tree.specs.declared.tree.Expr.TheVariants as expr

-- `name="value"`
abbrev pub matcher_of : List ℕ → List ℕ → Matcher
matcher_of name value = record { name = name; op = Eq; value = value }

-- the matcher is on the label
abbrev pub is_on : List ℕ → Matcher → Bool
is_on name m = bytes_eq m.name name

-- the matchers on other labels, in order, and behind them the enforced one
abbrev pub enforced_matchers : List ℕ → List ℕ → List Matcher → List Matcher
enforced_matchers name value matchers = filter (λ m. not (is_on name m)) matchers ++ matcher_of name value ∷ []

-- a selector gets the enforced matchers, every other node stays
abbrev pub enforce_step : List ℕ → List ℕ → Expr-F Expr → Expr
enforce_step name value (Expr-F.Number n) = expr.Number n
enforce_step name value (Expr-F.Str text) = expr.Str text
enforce_step name value (Expr-F.Select metric matchers range offset) =
    expr.Select metric (enforced_matchers name value matchers) range offset
enforce_step name value (Expr-F.Unary minus of) = expr.Unary minus of
enforce_step name value (Expr-F.Binary op boolean m left right) = expr.Binary op boolean m left right
enforce_step name value (Expr-F.Call function args) = expr.Call function args
enforce_step name value (Expr-F.Aggregate op grouping param of) = expr.Aggregate op grouping param of

-- the tree with the label enforced; all but the matchers stays
abbrev pub enforced : List ℕ → List ℕ → Expr → Expr
enforced name value = fold-Expr Expr (enforce_step name value)

-- a selector's own matchers; of every other node those of its children in order
abbrev pub matchers_step : Expr-F (List Matcher) → List Matcher
matchers_step (Expr-F.Select metric matchers range offset) = matchers
matchers_step node = flat_map (λ matchers. matchers) (children_of node)

-- the matchers of all selectors, in text order
abbrev pub matchers_of : Expr → List Matcher
matchers_of = fold-Expr (List Matcher) matchers_step

-- the matcher asks for one value
abbrev pub is_equality : MatchOp → Bool
is_equality Eq = true
is_equality _ = false

-- a matcher on the label that isn't the enforced one
abbrev pub conflicts : List ℕ → List ℕ → Matcher → Bool
conflicts name value m = is_on name m && not (is_equality m.op && bytes_eq m.value value)

-- the first of the matchers
abbrev pub first_of : List Matcher → Option Matcher
first_of [] = None
first_of (m ∷ rest) = Some m

-- the first such matcher in text order
abbrev pub first_conflict : List ℕ → List ℕ → Expr → Option Matcher
first_conflict name value e = first_of (filter (conflicts name value) (matchers_of e))
