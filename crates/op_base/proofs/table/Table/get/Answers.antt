use Rattle.std.proofs.Common.{string_bytes, ◌∙◌}
use Rattle.std.specs.Ordering.{nat_cmp}
use Rattle.std.specs.Cmp.Lexicographic.{slice_cmp}
use Rattle.op_base.proofs.MapLemmas.{found}
use Rattle.op_base.proofs.table.Table.get.Goals as goal

pub returns : goal.returns
returns g c = c.get.ensures.value ∙ found string_bytes (slice_cmp nat_cmp) c.args.key.now _ _ c.self.view_is
