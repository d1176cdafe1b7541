-- Each call opens a bracket, or stands nearer to the words than its caller does.
use Rattle.std.proofs.Common.{◌≡◌, ◌+◌, ◌-◌, ◌*◌, length, map, Some}
use Rattle.ql_tree.specs.Children.{depth_of, greatest}
use Rattle.ql_parse.specs.Climbing.{IsDepth, operand, chained}
use Rattle.ql_parse.specs.ReadTerms.{arguments}
use Rattle.ql_parse.specs.Reading.{within}
use Rattle.ql_parse.proofs.ListSteps.{with_all}
use Rattle.ql_parse.proofs.climbing.+climbing.Given as goal

abbrev pub decreases-within : goal.decreases-within
decreases-within l = 1000 * l.room

abbrev pub decreases-level : goal.decreases-level
decreases-level l = 1000 * l.room + 400 + 10 * l.top

abbrev pub decreases-chain : goal.decreases-chain
decreases-chain l = 1000 * l.room + 400 + 10 * l.below + 5

abbrev pub decreases-right : goal.decreases-right
decreases-right l = 1000 * l.room + 400 + 10 * l.below + 3

abbrev pub decreases-signed : goal.decreases-signed
decreases-signed l = 1000 * l.room + 50 + l.limit

abbrev pub decreases-atom : goal.decreases-atom
decreases-atom l = 1000 * l.room + 40

abbrev pub decreases-bracketed : goal.decreases-bracketed
decreases-bracketed l = 1000 * l.room + 10

abbrev pub decreases-named : goal.decreases-named
decreases-named l = 1000 * l.room + 30

abbrev pub decreases-call : goal.decreases-call
decreases-call l = 1000 * l.room + 20

abbrev pub decreases-arguments : goal.decreases-arguments
decreases-arguments l = 1000 * l.room + 10

abbrev pub decreases-aggregate : goal.decreases-aggregate
decreases-aggregate l = 1000 * l.room + 20

abbrev pub decreases-operands : goal.decreases-operands
decreases-operands l = 1000 * l.room + 15

-- the levels so far are read
abbrev pub invariant-level-loop-k : goal.invariant-level-loop-k
invariant-level-loop-k l = record {
  read : operand l.k l.room l.limit l.words ≡ Some (l.found.0, l.behind);
  depth : IsDepth l.limit l.found.0 l.found.1;
}

-- the operators that are left give what all do
abbrev pub invariant-chain-loop-step : goal.invariant-chain-loop-step
invariant-chain-loop-step l = record {
  read : chained l.below l.room l.limit (length l.words - l.step) l.found.0 l.behind
      ≡ chained l.below l.room l.limit (length l.words) l.initial.found.0 l.words;
  depth : IsDepth l.limit l.found.0 l.found.1;
}

-- the arguments so far and those that are left are all
abbrev pub invariant-arguments-loop-step : goal.invariant-arguments-loop-step
invariant-arguments-loop-step l = record {
  read : with_all l.args (arguments (length l.words - l.step) (within l.room l.limit) l.behind)
      ≡ arguments (length l.words) (within l.room l.limit) l.words;
  depth : l.depth ≡ greatest (map depth_of l.args);
}
