use Rattle.std.proofs.Common.{SFits, ◌*ℤ◌, ap, ◌∙◌, arith, rules}
use mir.Syntax.{w64, w128}
use Rattle.std.specs.Int.{saturate_signed}
use Rattle.std.specs.Prelude.{int_div}
use Rattle.std.proofs.lemmas.Int.{ints, to_z-of_z, quot_is, quot_fits}
use Rattle.ql_tree.specs.Arithmetic.{clamped}
use Rattle.ql_call.specs.Over.{second}
use Rattle.ql_call.proofs.RateLemmas.{share_cut}
use Rattle.ql_call.proofs.over_time.per_second.Goals as goal

pub returns : goal.returns
returns c =
    let increase : SFits w128 c.args.increase.now = search rules in
    let range : SFits w64 c.args.range.now.0 = search rules in
    let shown : SFits w64 c.clamped.result = search rules in
    let product : SFits w128 c.saturating_mul.result = search rules in
    let divisor : SFits w128 c.from.result = search rules in
    let a_second : SFits w128 c.from-second.result = search rules in
    let increases = to_z-of_z w128 c.args.increase.now increase in
    let seconds = to_z-of_z w128 c.from-second.result a_second ∙ c.from-second.ensures in
    let mul = c.saturating_mul.ensures ∙ (λ i. saturate_signed w128 (increases i *ℤ seconds i)) in
    let from = c.from.ensures ∙ to_z-of_z w64 c.args.range.now.0 range in
    to_z-of_z w64 c.clamped.result shown ∙ c.clamped.ensures
    ∙ ap clamped (quot_is w128 c.saturating_mul.result c.from.result product divisor (quot_fits w128 c.saturating_mul.result c.from.result product (omega (arith, ints))))
    ∙ (λ i. clamped (int_div (mul i) (from i)))
    ∙ share_cut (c.args.increase.now *ℤ second) c.args.range.now.0 c.requires range
