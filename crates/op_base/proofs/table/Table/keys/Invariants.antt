use Rattle.std.proofs.Common.{◌≡◌, ◌++◌, map, string_bytes}
use Rattle.op_base.proofs.table.Table.keys.Given as goal

abbrev pub invariant-loop-key : goal.invariant-loop-key
invariant-loop-key g l =
    (goal.iterator-loop-key g).can_next l.key-iterator ×
    (goal.iterator-loop-key g).is_finite l.key-iterator ×
    (map (λ key. string_bytes key) l.initial.key-iterator ≡ l.keys ++ map (λ key. string_bytes key) l.key-iterator)
