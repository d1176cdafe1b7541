use Rattle.std.proofs.Common.{string_bytes}
use Rattle.std.specs.Ordering.{nat_cmp}
use Rattle.std.specs.Cmp.Lexicographic.{slice_cmp}
use Rattle.op_base.proofs.MapLemmas.{risen}
use Rattle.op_base.proofs.table.Table.len.Goals as goal

pub returns-clause-sorted : goal.returns-clause-sorted
returns-clause-sorted g c = risen string_bytes (slice_cmp nat_cmp) _ _ c.self.view_is c.len.ensures.ordered
