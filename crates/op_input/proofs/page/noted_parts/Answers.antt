-- The table, row by row.
use Rattle.std.proofs.Common.{[]}
use Rattle.op_manifest.specs.Trees.{data_of}
use Rattle.op_manifest.proofs.RowLemmas.{read_table, row, end}
use Rattle.op_input.specs.Pages.{page_rows}
use Rattle.op_input.proofs.page.noted_parts.Goals as goal

pub returns : goal.returns
returns c = (
  read_table page_rows [] (data_of c.args.tree.now) _ _ _ c.in_ok-noted_known.ensures
      (row c.in_ok-url.ensures.0
      (row c.in_ok-samples.ensures.0
      end)),
  λ i. (c.in_ok-url.ensures.1 i, c.in_ok-samples.ensures.1 i),
)
