-- Row by row.
use Rattle.std.proofs.Common.{◌∙◌, ap, unwrap_or}
use Rattle.op_manifest.specs.Trees.{data_of}
use Rattle.op_manifest.proofs.RowLemmas.{read_rows, row, end}
use Rattle.kind_admin.specs.declared.strategy.MatcherStrategy.TheVariants.{OnNamespace}
use Rattle.kind_admin.specs.AlertmanagerTables.{alertmanager_rows, parts_of}
use Rattle.kind_admin.proofs.alertmanager.noted_parts.Goals as goal

pub returns : goal.returns
unfolding parts_of
returns c = (
  read_rows c.args.path.now (data_of c.args.tree.now) alertmanager_rows _ _
      (row c.in_ok-note_object.ensures
      (row c.in_ok-note_barred.ensures
      (row c.in_ok-note_barred-2.ensures
      (row c.in_ok-configs.ensures.0
      (row c.in_ok-strategy.ensures.0
      (row c.in_ok-base_config.ensures.0
      end)))))),
  λ i. record {
    configs = c.in_ok-configs.ensures.1 i;
    strategy = (c.unwrap_or.ensures ∙ ap (λ strategy. unwrap_or strategy OnNamespace) c.in_ok-strategy.ensures.1) i;
    base_config = c.in_ok-base_config.ensures.1 i;
  },
)
