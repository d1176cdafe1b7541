use Rattle.std.proofs.Common.{◌∙◌, sym, ap, option_map}
use Rattle.op_manifest.specs.Trees.{data_of}
use Rattle.op_manifest.proofs.TreeLemmas.{part_of_items, part_of_fields}
use Rattle.op_manifest.proofs.tree.Tree.part.Goals as goal

pub returns-in-Some-item_at : goal.returns-in-Some-item_at
returns-in-Some-item_at c =
    ap (option_map data_of) c.in-Some-item_at.ensures
    ∙ sym (part_of_items (data_of c.args.self.now) c.in-Some.items.now c.args.index c.in-Some.ensures)

pub returns-in-None-item_at : goal.returns-in-None-item_at
returns-in-None-item_at c =
    ap (option_map data_of) c.in-None-item_at.ensures
    ∙ sym (part_of_items (data_of c.args.self.now) c.in-Some.items.now c.args.index c.in-Some.ensures)

pub returns-in-Some-item_at-2 : goal.returns-in-Some-item_at-2
returns-in-Some-item_at-2 c =
    ap (option_map (λ field. data_of field.1)) c.in-Some-item_at-2.ensures
    ∙ sym (part_of_fields (data_of c.args.self.now) c.in-Some-as_fields.fields.now c.args.index c.in-None.ensures c.in-Some-as_fields.ensures)

pub returns-in-None-item_at-2 : goal.returns-in-None-item_at-2
returns-in-None-item_at-2 c =
    ap (option_map (λ field. data_of field.1)) c.in-None-item_at-2.ensures
    ∙ sym (part_of_fields (data_of c.args.self.now) c.in-Some-as_fields.fields.now c.args.index c.in-None.ensures c.in-Some-as_fields.ensures)
