use Rattle.std.proofs.Common.{List, ℕ, ap, ◌∙◌}
use Rattle.op_base.specs.Labels.{Texts, labels_with}
use Rattle.op_base.specs.Matchers.{label_value}
use Rattle.ql_call.proofs.LoopLemmas.{fold_next, fold_whole}
use Rattle.ql_call.proofs.matching.with_included.Goals as goal

abbrev included : Texts → Texts → List ℕ → Texts
included one labels name = labels_with labels name (label_value one name)

pub loop-name-preserved : goal.loop-name-preserved
loop-name-preserved c =
    fold_next (included c.args.one.now) c.args.names.now c.loop-name.name-index c.name-item.result _ _ _ c.loop-name-test.true c.name-item.is
    c.loop-name.invariant (c.in_ok-include.ensures ∙ ap (included c.args.one.now c.loop-name.labels) c.as_str.ensures)

pub returns : goal.returns
returns c = fold_whole (included c.args.one.now) c.args.names.now c.loop-name.name-index _ _ c.loop-name-test.false c.loop-name.invariant
