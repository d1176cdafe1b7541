use Rattle.std.proofs.Common.{◌∙◌}
use Rattle.op_base.proofs.TableLemmas.{drained}
use Rattle.op_base.proofs.table.Table.into_values.Goals as goal

pub returns : goal.returns
returns g c = drained _ c.args.self c.loop-value.values c.into_iter-value-iterator.result c.loop-value.value-iterator c.self.view_is
    (c.into_iter-value-iterator.ensures.into_iter_gives ∙ c.into_values-value-items.ensures.rest) c.loop-value.invariant.2 c.in-None.ensures.steps.0
