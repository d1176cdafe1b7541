use Rattle.std.proofs.Common.{◌≡◌, [], filter, take}
use Rattle.op_base.specs.Labels.{labels_with_all}
use Rattle.op_relabel.specs.Actions.{is_named}
use Rattle.op_relabel.proofs.names.with_names.Given as goal

abbrev pub invariant-loop-place : goal.invariant-loop-place
invariant-loop-place l = l.left ≡ labels_with_all [] (filter (is_named l.step) (take l.place l.labels))
