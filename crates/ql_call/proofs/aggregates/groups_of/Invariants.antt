-- The groups so far, with what is left, are those of all.
use Rattle.std.proofs.Common.{◌≡◌, fold, drop}
use Rattle.op_base.specs.Maps.{with_member}
use Rattle.op_base.specs.Labels.{labels_cmp}
use Rattle.ql_call.specs.Aggregates as spec
use Rattle.ql_call.specs.Elements.{Element}
use Rattle.ql_call.proofs.aggregates.groups_of.Given as goal

abbrev pub invariant-loop-element : goal.invariant-loop-element
invariant-loop-element l =
    spec.groups_of l.grouping l.elements
    ≡ fold (λ groups (e : Element). with_member labels_cmp groups (spec.group_key l.grouping e.0) e) l.groups (drop l.element-index l.elements)
