-- The table, row by row.
use Rattle.std.proofs.Common.{◌∙◌, ap}
use Rattle.op_manifest.specs.Trees.{data_of}
use Rattle.op_manifest.proofs.RowLemmas.{read_table, row, end}
use Rattle.op_input.specs.Targets.{entry_rows, entry_of, role_of}
use Rattle.op_input.proofs.entry.noted_entry.Goals as goal

pub returns : goal.returns
unfolding entry_of
returns c = (
  read_table entry_rows c.args.path.now (data_of c.args.tree.now) _ _ _ c.in_ok-noted_known.ensures
      (row c.in_ok-role.ensures.0
      (row c.in_ok-name.ensures.0
      (row c.in_ok-address.ensures.0
      (row c.in_ok-tags.ensures.0
      (row c.in_ok-port.ensures.0
      (row c.in_ok-pod.ensures.0
      end)))))),
  λ i. record {
    role = (c.role_of.ensures ∙ ap role_of c.in_ok-role.ensures.1) i;
    name = c.in_ok-name.ensures.1 i;
    tags = c.in_ok-tags.ensures.1 i;
    address = c.in_ok-address.ensures.1 i;
    port = c.in_ok-port.ensures.1 i;
    pod = c.in_ok-pod.ensures.1 i;
  },
)
