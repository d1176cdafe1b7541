-- The table, row by row.
use Rattle.std.proofs.Common.{[], ◌∙◌, ap, unwrap_or}
use Rattle.op_manifest.specs.Trees.{data_of}
use Rattle.op_manifest.proofs.RowLemmas.{read_table, row, end}
use Rattle.op_relabel.specs.Steps.{default_modulus}
use Rattle.kind_scrape.specs.Relabelings.{step_rows, step_of, action_or_replace}
use Rattle.kind_scrape.proofs.relabelings.read_step.Goals as goal

pub returns : goal.returns
unfolding step_of
returns c = (
  read_table step_rows c.args.path.now (data_of c.args.tree.now) _ _ _ c.in_ok-noted_known.ensures
      (row c.in_ok-sources.ensures.0
      (row c.in_ok-separator.ensures.0
      (row c.in_ok-target.ensures.0
      (row c.in_ok-pattern.ensures.0
      (row c.in_ok-modulus.ensures.0
      (row c.in_ok-replacement.ensures.0
      (row c.in_ok-word.ensures.0
      end))))))),
  λ i. record {
    action = (c.action_or_replace.ensures ∙ ap action_or_replace c.in_ok-word.ensures.1) i;
    source = (c.or_none.ensures ∙ ap (λ sources. unwrap_or sources []) c.in_ok-sources.ensures.1) i;
    separator = c.in_ok-separator.ensures.1 i;
    pattern = c.in_ok-pattern.ensures.1 i;
    replacement = c.in_ok-replacement.ensures.1 i;
    target = c.in_ok-target.ensures.1 i;
    modulus = (c.unwrap_or.ensures ∙ ap (λ modulus. unwrap_or modulus default_modulus) c.in_ok-modulus.ensures.1) i;
  },
)
