-- The labels so far are the first ones.
use Rattle.std.proofs.Common.{◌≡◌, take}
use Rattle.srv_store.specs.Indexes as spec
use Rattle.srv_store.proofs.index.single_labels.Given as goal

abbrev pub invariant-loop-place : goal.invariant-loop-place
invariant-loop-place l = l.singles ≡ spec.single_labels (take l.place l.labels)
