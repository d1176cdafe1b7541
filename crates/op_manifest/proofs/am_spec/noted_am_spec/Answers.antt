-- The table, row by row.
use Rattle.std.proofs.Common.{[], ◌∙◌, ap, unwrap_or}
use Rattle.op_manifest.specs.Trees.{data_of}
use Rattle.op_manifest.proofs.RowLemmas.{read_table, row, end}
use Rattle.op_manifest.specs.AmSpecs.{am_spec_rows, am_spec_of}
use Rattle.op_manifest.proofs.am_spec.noted_am_spec.Goals as goal

pub returns : goal.returns
unfolding am_spec_of
returns c = (
  read_table (am_spec_rows c.args.base) c.args.path.now (data_of c.args.tree.now) _ _ _ c.in_ok-noted_known.ensures
      (row c.in_ok-route.ensures.0
      (row c.in_ok-all.ensures.0
      (row c.in_ok-rules.ensures.0
      end))),
  λ i. record {
    route = c.in_ok-route.ensures.1 i;
    receivers = (c.or_none-receivers.ensures ∙ ap (λ all. unwrap_or all []) c.in_ok-all.ensures.1) i;
    inhibit_rules = (c.or_none-inhibit_rules.ensures ∙ ap (λ all. unwrap_or all []) c.in_ok-rules.ensures.1) i;
  },
)
