-- A node that is built fits the limit on depth, or it doesn't.
use Rattle.std.proofs.Common.{◌≡◌, ℕ, ◌<◌, false, List, None, nat_le, refl, arith}
use Rattle.std.proofs.lemmas.Bool.Decides.{nat_tests}
use Rattle.ql_tree.specs.Children.{depth_of}
use Rattle.ql_tree.specs.declared.tree.Expr.{Expr}
use Rattle.ql_tree.specs.declared.word.Word.{Word}
use Rattle.ql_parse.specs.Found.{fitting}
use Rattle.ql_parse.proofs.Readers.{fitting_fits}
use Rattle.ql_parse.proofs.DepthLemmas.{depth-Number, depth-Str, depth-Select, depth-Unary, depth-Binary, depth-Call, depth-Aggregate}

pub too_deep : (d : ℕ) (e : Expr) (rest : List Word) → d < depth_of e → fitting d e rest ≡ None
too_deep d e rest large =
    let t : nat_le (depth_of e) d ≡ false = grind (arith, nat_tests) in rw t refl

pub ruleset depths_of_nodes =
    (fitting_fits, too_deep, depth-Number, depth-Str, depth-Select, depth-Unary, depth-Binary, depth-Call, depth-Aggregate)
