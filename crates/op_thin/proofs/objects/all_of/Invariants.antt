use Rattle.std.proofs.Common.{◌≡◌, ◌++◌}
use Rattle.std.specs.List.{flat_map}
use Rattle.std.specs.Vec.Iter.{into_iter_items}
use Rattle.op_base.specs.Maps.{values_of}
use Rattle.op_thin.proofs.objects.all_of.Given as goal

abbrev pub invariant-loop-inner : goal.invariant-loop-inner
invariant-loop-inner g l =
    flat_map values_of (into_iter_items l.initial.inner-iterator) ≡ l.all ++ flat_map values_of (into_iter_items l.inner-iterator)
