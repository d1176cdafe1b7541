use Rattle.std.proofs.Common.{SFits, ◌*ℤ◌, ap, ◌∙◌, rules}
use mir.Syntax.{w64, w128}
use Rattle.std.specs.Prelude.{int_div}
use Rattle.std.proofs.lemmas.Int.{to_z-of_z}
use Rattle.ql_tree.specs.Arithmetic.{clamped}
use Rattle.ql_call.specs.Over.{second}
use Rattle.ql_call.proofs.RateLemmas.{two_numbers}
use Rattle.ql_call.proofs.over_time.rate_of_two.Goals as goal

pub returns-in-len2-up : goal.returns-in-len2-up
returns-in-len2-up c =
    let given : SFits w128 c.increase_in.result = search rules in
    let shown : SFits w64 c.per_second.result = search rules in
    two_numbers c.args.samples.now _ _ c.in-len2-up.len_at_least
    (to_z-of_z w64 c.per_second.result shown ∙ c.per_second.ensures
    ∙ ap (λ n. clamped (int_div (n *ℤ second) c.args.range.now.0)) (to_z-of_z w128 c.increase_in.result given ∙ c.increase_in.ensures))
