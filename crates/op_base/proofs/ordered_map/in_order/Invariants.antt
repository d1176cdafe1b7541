-- What was put, with what is left, is all in its order.
use Rattle.std.proofs.Common.{◌≡◌}
use Rattle.op_base.specs.Maps as spec
use Rattle.op_base.proofs.ordered_map.in_order.Given as goal

abbrev pub invariant-loop-key : goal.invariant-loop-key
invariant-loop-key g l =
    (goal.iterator-loop-key g).can_next l.key-iterator ×
    (goal.iterator-loop-key g).is_finite l.key-iterator ×
    (spec.in_order g.K.Ord.cmp l.initial.key-iterator.rest.items
    ≡ spec.put_all g.K.Ord.cmp l.map l.key-iterator.rest.items)
