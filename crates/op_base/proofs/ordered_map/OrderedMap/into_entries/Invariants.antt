use Rattle.std.proofs.Common.{◌≡◌, ◌++◌}
use Rattle.op_base.proofs.ordered_map.OrderedMap.into_entries.Given as goal

abbrev pub invariant-loop-entry : goal.invariant-loop-entry
invariant-loop-entry g l =
    (goal.iterator-loop-entry g).can_next l.entry-iterator ×
    (goal.iterator-loop-entry g).is_finite l.entry-iterator ×
    (l.initial.entry-iterator ≡ l.all ++ l.entry-iterator)
