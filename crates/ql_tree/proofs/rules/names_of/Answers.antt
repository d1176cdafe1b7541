use Rattle.ql_tree.proofs.NameLemmas.{named_next}
use Rattle.ql_tree.proofs.rules.names_of.Goals as goal

pub loop-label-preserved : goal.loop-label-preserved
loop-label-preserved c =
    named_next c.args.labels.now c.loop-label.label-index c.label-item.result c.in_ok-clone.field-0 _ c.loop-label.names c.insert.new.self
    c.loop-label-test.true c.label-item.is c.in_ok-clone.ensures.cases c.in_ok-insert.ensures.ok c.loop-label.invariant
