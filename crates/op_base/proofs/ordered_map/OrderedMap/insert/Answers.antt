use Rattle.op_base.proofs.MapLemmas.{own_filled}
use Rattle.op_base.proofs.ordered_map.OrderedMap.insert.Goals as goal

pub returns-clause-ok : goal.returns-clause-ok
returns-clause-ok g c = own_filled g.K.Ord.cmp c.args.key c.args.value _ _ _ c.self.view_is c.in_ok-insert.ensures.entries
