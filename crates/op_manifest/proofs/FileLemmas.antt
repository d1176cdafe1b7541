-- The items of a list of manifests.
use Rattle.std.proofs.Common.{ap}
use Rattle.std.specs.Prelude.{List, [], ◌∷◌, ◌≡◌, map}
use Rattle.op_manifest.specs.declared.tree.Tree.{Tree}
use Rattle.op_manifest.specs.Files.{same}
use Rattle.op_manifest.specs.Trees.{data_of, items_in}
use Rattle.op_manifest.specs.Values.{each_of}

-- the items as they are, are the trees that were read
pub trees_are_items : (trees : List Tree) → each_of same (items_in trees) ≡ map data_of trees
trees_are_items [] = λ i. []
trees_are_items (tree ∷ trees) = ap (λ ds. data_of tree ∷ ds) (trees_are_items trees)
