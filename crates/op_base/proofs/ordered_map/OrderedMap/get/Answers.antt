use Rattle.std.proofs.Common.{◌∙◌}
use Rattle.op_base.proofs.MapLemmas.{own_found}
use Rattle.op_base.proofs.ordered_map.OrderedMap.get.Goals as goal

pub returns : goal.returns
returns g c = c.get.ensures.value ∙ own_found g.K.Ord.cmp c.args.key.now _ _ c.self.view_is
