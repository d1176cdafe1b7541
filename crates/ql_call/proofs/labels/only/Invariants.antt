-- The labels so far, with those of the other names, are those of all.
use Rattle.std.proofs.Common.{◌≡◌, fold, drop}
use Rattle.op_base.specs.Labels.{labels_with}
use Rattle.op_base.specs.Matchers.{label_value}
use Rattle.ql_call.specs.Elements as spec
use Rattle.ql_call.proofs.labels.only.Given as goal

abbrev pub invariant-loop-name : goal.invariant-loop-name
invariant-loop-name l =
    spec.only l.names l.labels
    ≡ fold (λ kept name. labels_with kept name (label_value l.labels name)) l.kept (drop l.name-index l.names)
