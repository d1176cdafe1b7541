use Rattle.std.proofs.Common.{◌∙◌, Some, sym, ap, option_map}
use Rattle.op_manifest.specs.Trees.{data_of}
use Rattle.op_manifest.proofs.TreeLemmas.{name_of_field}
use Rattle.op_manifest.proofs.tree.Tree.name.Goals as goal

pub returns-in-Some-item_at : goal.returns-in-Some-item_at
returns-in-Some-item_at c =
    ap Some c.as_str.ensures ∙ ap (option_map (λ field. field.0)) c.in-Some-item_at.ensures
    ∙ sym (name_of_field (data_of c.args.self.now) c.in-Some.fields.now c.args.index c.in-Some.ensures)

pub returns-in-None-item_at : goal.returns-in-None-item_at
returns-in-None-item_at c =
    ap (option_map (λ field. field.0)) c.in-None-item_at.ensures
    ∙ sym (name_of_field (data_of c.args.self.now) c.in-Some.fields.now c.args.index c.in-Some.ensures)
