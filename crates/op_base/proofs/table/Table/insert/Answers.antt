use Rattle.std.proofs.Common.{string_bytes, ◌∙◌, ap}
use Rattle.std.specs.Ordering.{nat_cmp}
use Rattle.std.specs.Cmp.Lexicographic.{slice_cmp}
use Rattle.op_base.specs.Maps.{with_entry}
use Rattle.op_base.proofs.MapLemmas.{filled}
use Rattle.op_base.proofs.table.Table.insert.Goals as goal

pub returns-clause-ok : goal.returns-clause-ok
returns-clause-ok g c = filled string_bytes (slice_cmp nat_cmp) c.into_string.result c.args.value _ _ _ c.self.view_is c.in_ok-insert.ensures.entries
    ∙ ap (λ key. with_entry c.args.self.now key c.args.value) c.into_string.ensures
