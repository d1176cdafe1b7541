-- The patterns that the rules' matchers of a configuration ask for.
use Rattle.std.specs.List.{AllByRecursion}
use Rattle.op_base.specs.Matchers.{HasPattern}
use Rattle.cfg_types.specs.declared.config.Config.{Config}
use Rattle.cfg_types.specs.declared.config.RuleFile.{RuleFile}
use Rattle.cfg_types.specs.declared.config.Rule.{Rule}
use Rattle.ql_tree.specs.declared.tree.Expr.{Expr}
use Rattle.ql_tree.specs.declared.tree.Expr.TheOpen.{Expr-F}
use Rattle.ql_tree.specs.declared.tree.Expr.TheViews.{out-Expr}

-- each matcher of a selector with `=~` or `!~` has a pattern
abbrev pub NodeHasPatterns : Expr-F Expr → Type 0
NodeHasPatterns (Expr-F.Number n) = Unit {0}
NodeHasPatterns (Expr-F.Str text) = Unit {0}
NodeHasPatterns (Expr-F.Select name matchers range offset) =
    AllByRecursion (λ matcher. HasPattern matcher.op matcher.value) matchers
NodeHasPatterns (Expr-F.Unary minus of) = Unit {0}
NodeHasPatterns (Expr-F.Binary op boolean m left right) = Unit {0}
NodeHasPatterns (Expr-F.Call function args) = Unit {0}
NodeHasPatterns (Expr-F.Aggregate op grouping param of) = Unit {0}

-- those of a rule whose expression is a selector
abbrev pub RuleHasPatterns : Rule → Type 0
RuleHasPatterns rule = NodeHasPatterns (out-Expr rule.expr)

-- each rule of the file has its patterns
abbrev pub FileHasPatterns : RuleFile → Type 0
FileHasPatterns file = AllByRecursion (λ group. AllByRecursion RuleHasPatterns group.rules) file.groups

-- each rule file has its patterns
abbrev pub RulesHavePatterns : Config → Type 0
RulesHavePatterns config = AllByRecursion FileHasPatterns config.rules
