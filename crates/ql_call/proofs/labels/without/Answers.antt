use Rattle.std.proofs.Common.{fold, sym, ap, ◌∙◌}
use Rattle.op_base.specs.Maps.{without_entry}
use Rattle.ql_call.proofs.LoopLemmas.{fold_next, fold_whole}
use Rattle.ql_call.proofs.labels.without.Goals as goal

pub loop-name-init : goal.loop-name-init
loop-name-init c = ap (λ kept. fold without_entry kept c.args.names.now) (sym c.in_ok-kept.ensures)

pub loop-name-preserved : goal.loop-name-preserved
loop-name-preserved c =
    fold_next without_entry c.args.names.now c.loop-name.name-index c.name-item.result _ _ _ c.loop-name-test.true c.name-item.is
    c.loop-name.invariant (c.remove.ensures ∙ ap (without_entry c.loop-name.kept) c.as_str.ensures)

pub returns : goal.returns
returns c = fold_whole without_entry c.args.names.now c.loop-name.name-index _ _ c.loop-name-test.false c.loop-name.invariant
