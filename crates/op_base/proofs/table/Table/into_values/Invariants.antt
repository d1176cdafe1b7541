use Rattle.std.proofs.Common.{◌≡◌, ◌++◌}
use Rattle.op_base.proofs.table.Table.into_values.Given as goal

abbrev pub invariant-loop-value : goal.invariant-loop-value
invariant-loop-value g l =
    (goal.iterator-loop-value g).can_next l.value-iterator ×
    (goal.iterator-loop-value g).is_finite l.value-iterator ×
    (l.initial.value-iterator ≡ l.values ++ l.value-iterator)
