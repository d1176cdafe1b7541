-- Lists of values beside an operator.
use Rattle.std.proofs.Common.{arith}
use Rattle.std.specs.Prelude.{List, [], ◌∷◌, ◌≡◌, ◌≤◌, length, false}
use Rattle.op_manifest.specs.declared.tree.Tree.{Tree}
use Rattle.op_manifest.specs.Trees.{items_in}
use Rattle.op_manifest.specs.Selectors.{is_empty}

-- a list with an item isn't empty
pub not_empty : (items : List Tree) → 1 ≤ length items → is_empty (items_in items) ≡ false
not_empty [] some = absurd (omega (arith, some))
not_empty (item ∷ items) some = λ i. false
