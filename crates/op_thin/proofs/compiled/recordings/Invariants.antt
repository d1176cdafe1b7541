-- The rules so far, with what is left of them, are all.
use Rattle.std.proofs.Common.{◌≡◌, ◌++◌}
use Rattle.std.specs.List.{filter_map}
use Rattle.std.specs.Vec.Iter.{into_iter_items}
use Rattle.op_thin.specs.Compiled.{recording_of}
use Rattle.op_thin.proofs.compiled.recordings.Given as goal

abbrev pub invariant-loop-rule : goal.invariant-loop-rule
invariant-loop-rule l =
    filter_map recording_of (into_iter_items l.initial.rule-iterator)
    ≡ l.taken ++ filter_map recording_of (into_iter_items l.rule-iterator)
