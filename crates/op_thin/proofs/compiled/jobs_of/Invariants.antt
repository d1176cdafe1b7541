use Rattle.std.proofs.Common.{◌≡◌, ◌++◌, map}
use Rattle.std.specs.Vec.Iter.{into_iter_items}
use Rattle.op_thin.specs.Compiled.{job_of}
use Rattle.op_thin.proofs.compiled.jobs_of.Given as goal

abbrev pub invariant-loop-probe : goal.invariant-loop-probe
invariant-loop-probe l =
    map job_of (into_iter_items l.initial.probe-iterator) ≡ l.jobs ++ map job_of (into_iter_items l.probe-iterator)
