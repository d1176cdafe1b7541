use Rattle.std.proofs.Common.{◌∙◌, [], sym, ap, option_and_then}
use Rattle.std.specs.Option.{option_map_or}
use Rattle.serde_json.specs.Find.{as_array}
use Rattle.op_manifest.specs.Checks.{given}
use Rattle.op_manifest.specs.Files.{same}
use Rattle.op_manifest.specs.Trees.{data_of}
use Rattle.op_manifest.specs.Values.{each_of}
use Rattle.op_manifest.proofs.FileLemmas.{trees_are_items}
use Rattle.op_manifest.proofs.TreeLemmas.{data-Items}
use Rattle.op_manifest.proofs.lists.trees_of.Goals as goal

pub returns-in-Items : goal.returns-in-Items
returns-in-Items c =
    sym (trees_are_items c.in-Items.items)
    ∙ ap (λ d. option_map_or (each_of same) (option_and_then as_array (given d)) []) (sym (ap data_of c.in-Items.is ∙ data-Items c.in-Items.items))
