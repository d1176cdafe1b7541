-- The items so far and those that are left are all.
use Rattle.std.proofs.Common.{◌≡◌, ◌-◌, length}
use Rattle.ql_parse.specs.CommaLists.{comma_list}
use Rattle.ql_parse.proofs.ListSteps.{with_all}
use Rattle.ql_parse.proofs.lists.comma_list.Given as goal

abbrev pub invariant-loop-step : goal.invariant-loop-step
invariant-loop-step g l =
    with_all l.found (comma_list g.T.Item.closing g.T.Item.reading (length l.words - l.step) l.behind)
    ≡ comma_list g.T.Item.closing g.T.Item.reading (length l.words) l.words
