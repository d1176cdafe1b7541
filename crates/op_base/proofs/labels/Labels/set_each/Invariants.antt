-- The labels so far, with what is left put over them, are all.
use Rattle.std.proofs.Common.{◌≡◌, drop}
use Rattle.op_base.specs.Labels.{labels_with_all}
use Rattle.op_base.proofs.labels.Labels.set_each.Given as goal

abbrev pub invariant-loop-other : goal.invariant-loop-other
invariant-loop-other l =
    labels_with_all l.initial.self l.others ≡ labels_with_all l.self (drop l.other-index l.others)
