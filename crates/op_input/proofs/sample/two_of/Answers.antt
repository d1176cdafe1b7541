-- Lists of one item, and of three and more, have no pair.
use Rattle.std.proofs.Common.{◌≡◌, ◌<◌, ◌≤◌, List, [], ◌∷◌, None, length, refl, sym, arith}
use Rattle.op_manifest.specs.declared.tree.Tree.{Tree}
use Rattle.op_manifest.specs.Trees.{items_in}
use Rattle.op_input.specs.Samples.{two_of}
use Rattle.op_input.proofs.sample.two_of.Goals as goal

none_in_one : (trees : List Tree) → 1 ≤ length trees → length trees < 2 → two_of (items_in trees) ≡ None
none_in_one [] some few = refl
none_in_one (t ∷ []) some few = refl
none_in_one (t ∷ u ∷ trees) some few = absurd (omega (arith, few))

none_in_three : (trees : List Tree) → 3 ≤ length trees → two_of (items_in trees) ≡ None
none_in_three [] many = refl
none_in_three (t ∷ []) many = refl
none_in_three (t ∷ u ∷ []) many = absurd (omega (arith, many))
none_in_three (t ∷ u ∷ v ∷ trees) many = refl

pub returns-in-len1 : goal.returns-in-len1
returns-in-len1 c = sym (none_in_one c.args.trees.now c.in-len1.len_at_least c.in-len1.len_below)

pub returns-in-len3-up : goal.returns-in-len3-up
returns-in-len3-up c = sym (none_in_three c.args.trees.now c.in-len3-up.len_at_least)
