use Rattle.std.proofs.Common.{◌≡◌, take}
use Rattle.std.specs.List.{filter_map}
use Rattle.op_base.specs.Labels.{labels_with_all}
use Rattle.op_relabel.specs.Actions.{mapped_label}
use Rattle.op_relabel.proofs.names.mapped.Given as goal

abbrev pub invariant-loop-place : goal.invariant-loop-place
invariant-loop-place l = l.left ≡ labels_with_all l.labels (filter_map (mapped_label l.step) (take l.place l.labels))
