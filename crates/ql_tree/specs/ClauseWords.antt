-- The words of PromQL that begin aggregates and clauses with labels: what a word is, in any letter case,
-- and which word is written, in lower case.
use Rattle.std.specs.Prelude.{ℕ, Bool, true, false, List, Option, Some, None, codes, if◌then◌else◌}
use Rattle.ql_tree.specs.declared.tree.AggregateOp.{AggregateOp}
use Rattle.ql_tree.specs.declared.tree.AggregateOp.TheVariants as aggregate
use Rattle.ql_tree.specs.declared.word.Keyword.{Keyword}
use Rattle.ql_tree.specs.declared.word.Keyword.TheVariants as keyword
use Rattle.ql_tree.specs.declared.word.Word.{Word}
use Rattle.ql_tree.specs.declared.word.Word.TheVariants as word

-- what a word is by its keyword
abbrev pub by_keyword : {A : Type 0} → (Keyword → Option A) → Word → Option A
by_keyword meaning (word.Name k text) = meaning k
by_keyword meaning _ = None

-- the aggregate that a keyword names
abbrev pub keyword_aggregate : Keyword → Option AggregateOp
keyword_aggregate (keyword.Aggregate op) = Some op
keyword_aggregate _ = None

-- the aggregate that the word is
unfoldable pub aggregate_of : Word → Option AggregateOp
aggregate_of w = by_keyword keyword_aggregate w

-- how an aggregate is written
abbrev pub aggregate_name : AggregateOp → List ℕ
aggregate_name aggregate.Sum = codes "sum"
aggregate_name aggregate.Min = codes "min"
aggregate_name aggregate.Max = codes "max"
aggregate_name aggregate.Avg = codes "avg"
aggregate_name aggregate.Group = codes "group"
aggregate_name aggregate.Count = codes "count"
aggregate_name aggregate.CountValues = codes "count_values"
aggregate_name aggregate.TopK = codes "topk"
aggregate_name aggregate.BottomK = codes "bottomk"

-- the word of an aggregate
abbrev pub aggregate_word : AggregateOp → Word
aggregate_word op = word.Name (keyword.Aggregate op) (aggregate_name op)

-- the keywords that begin the matching of labels; true of `on`
abbrev pub keyword_matching : Keyword → Option Bool
keyword_matching keyword.On = Some true
keyword_matching keyword.Ignoring = Some false
keyword_matching _ = None

-- `on` is true, `ignoring` false
unfoldable pub matching_of : Word → Option Bool
matching_of w = by_keyword keyword_matching w

-- `on` or `ignoring`
unfoldable pub matching_word : Bool → Word
matching_word on = if on then word.Name keyword.On (codes "on") else word.Name keyword.Ignoring (codes "ignoring")

-- the keywords that begin a group clause; true of `group_left`
abbrev pub keyword_side : Keyword → Option Bool
keyword_side keyword.GroupLeft = Some true
keyword_side keyword.GroupRight = Some false
keyword_side _ = None

-- `group_left` is true, `group_right` false
unfoldable pub side_of : Word → Option Bool
side_of w = by_keyword keyword_side w

-- `group_left` or `group_right`
unfoldable pub side_word : Bool → Word
side_word left =
    if left then word.Name keyword.GroupLeft (codes "group_left") else word.Name keyword.GroupRight (codes "group_right")

-- the keywords that begin a grouping; true of `by`
abbrev pub keyword_grouping : Keyword → Option Bool
keyword_grouping keyword.By = Some true
keyword_grouping keyword.Without = Some false
keyword_grouping _ = None

-- `by` is true, `without` false
unfoldable pub grouping_of : Word → Option Bool
grouping_of w = by_keyword keyword_grouping w

-- `by` or `without`
unfoldable pub grouping_word : Bool → Word
grouping_word by = if by then word.Name keyword.By (codes "by") else word.Name keyword.Without (codes "without")
