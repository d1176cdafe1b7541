use Rattle.std.proofs.Common.{SFits, rules}
use mir.Syntax.{w64}
use Rattle.std.proofs.lemmas.Int.{to_z-of_z}
use Rattle.ql_call.proofs.operators.changed_to.Goals as goal

pub returns : goal.returns
returns c =
    let fits : SFits w64 c.args.value.now = search rules in
    λ i. record { from = c.in_ok-copy.ensures i; to = c.args.to; value = to_z-of_z w64 c.args.value.now fits i }
