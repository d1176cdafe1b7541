use Rattle.std.proofs.Common.{fold, sym, ap}
use Rattle.op_base.specs.Maps.{with_member}
use Rattle.op_base.specs.Labels.{labels_cmp}
use Rattle.ql_call.specs.Aggregates as spec
use Rattle.ql_call.specs.Elements.{Element}
use Rattle.ql_call.proofs.LoopLemmas.{fold_next, fold_whole}
use Rattle.ql_call.proofs.aggregates.groups_of.Goals as goal

pub loop-element-preserved : goal.loop-element-preserved
loop-element-preserved c =
    fold_next (λ groups (e : Element). with_member labels_cmp groups (spec.group_key c.args.grouping.now e.0) e) c.args.elements.now c.loop-element.element-index
    c.element-item.result _ c.loop-element.groups c.add_element.new.groups c.loop-element-test.true c.element-item.is c.loop-element.invariant
    c.in_ok-add_element.ensures

pub loop-element-init : goal.loop-element-init
loop-element-init c = ap (λ groups. fold (λ groups (e : Element). with_member labels_cmp groups (spec.group_key c.args.grouping.now e.0) e) groups c.args.elements.now) (sym c.new-groups.ensures)

pub returns : goal.returns
returns c = fold_whole (λ groups (e : Element). with_member labels_cmp groups (spec.group_key c.args.grouping.now e.0) e) c.args.elements.now c.loop-element.element-index _ _ c.loop-element-test.false c.loop-element.invariant
