use Rattle.std.proofs.Common.{sym, ◌∙◌}
use Rattle.op_manifest.specs.Trees.{data_of}
use Rattle.op_manifest.specs.References.{reference_rows, reference_of, named}
use Rattle.op_manifest.proofs.ShapeLemmas.{later_none}
use Rattle.op_manifest.proofs.RowLemmas.{read_table, row, end}
use Rattle.op_manifest.proofs.reference.read_reference.Goals as goal

pub returns : goal.returns
unfolding reference_of
returns c = (
  read_table reference_rows c.args.path.now (data_of c.args.tree.now) _ _ _ c.in_ok-noted_known.ensures
      (row c.in_ok-name.ensures.0
      (row c.in_ok-key.ensures.0
      (row (sym (later_none _))
      end))),
  c.named.ensures ∙ (λ i. named (c.in_ok-name.ensures.1 i) (c.in_ok-key.ensures.1 i)),
)
