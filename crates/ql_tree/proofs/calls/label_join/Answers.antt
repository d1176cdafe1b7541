use Rattle.std.proofs.Common.{[], ◌∷◌, refl, arith}
use Rattle.ql_tree.specs.Calls.{label_join_shape}
use Rattle.ql_tree.specs.declared.types.ExprType.TheVariants.{Vector, Str}
use Rattle.ql_tree.proofs.ShapeLemmas.{too_few}
use Rattle.ql_tree.proofs.calls.label_join.Goals as goal

pub returns-then-args-lt4 : goal.returns-then-args-lt4
unfolding label_join_shape
returns-then-args-lt4 c = rw (too_few c.args.args.now (Vector ∷ Str ∷ Str ∷ Str ∷ []) (omega arith)) refl
