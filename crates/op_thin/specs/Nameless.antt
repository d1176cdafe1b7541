-- Selectors that may select every series: those without a name of which no matcher refuses the empty text.
use Rattle.std.specs.Prelude.{ℕ, Bool, false, List, [], Option, Some, None, ◌||◌}
use Rattle.std.specs.List.{list_all, list_any}
use Rattle.op_base.specs.declared.matcher.Matcher.{Matcher}
use Rattle.op_base.specs.Matchers.{passes}
use Rattle.ql_tree.specs.Children.{children_of}
use Rattle.ql_tree.specs.declared.tree.Expr.{Expr}
use Rattle.ql_tree.specs.declared.tree.Expr.TheOpen.{Expr-F}
use Rattle.ql_tree.specs.declared.tree.Expr.TheFolds.{fold-Expr}

-- the matcher doesn't refuse the empty text
abbrev pub accepts_empty : Matcher → Bool
accepts_empty m = passes m.op m.value []

-- a selector without a name whose matchers all accept the empty text
abbrev pub selects_all : Option (List ℕ) → List Matcher → Bool
selects_all None matchers = list_all accepts_empty matchers
selects_all (Some name) matchers = false

-- the node itself is one
abbrev pub is_nameless : {X : Type 0} → Expr-F X → Bool
is_nameless (Expr-F.Number n) = false
is_nameless (Expr-F.Str text) = false
is_nameless (Expr-F.Select name matchers range offset) = selects_all name matchers
is_nameless (Expr-F.Unary minus of) = false
is_nameless (Expr-F.Binary op boolean m left right) = false
is_nameless (Expr-F.Call function args) = false
is_nameless (Expr-F.Aggregate op grouping param of) = false

-- a node is a nameless selector, or there is one among its children
abbrev pub nameless_step : Expr-F Bool → Bool
nameless_step node = is_nameless node || list_any (λ below. below) (children_of node)

-- a selector of the tree is one
abbrev pub has_nameless : Expr → Bool
has_nameless = fold-Expr Bool nameless_step
