-- The number is listed at the labels so far.
use Rattle.std.proofs.Common.{take}
use Rattle.srv_store.specs.Indexes as spec
use Rattle.srv_store.proofs.index.list_each.Given as goal

abbrev pub invariant-loop-place : goal.invariant-loop-place
invariant-loop-place l = spec.ListsAt l.initial.index l.index (take l.place l.labels) l.number
