use Rattle.std.proofs.Common.{SFits, ◌++◌, ◌∷◌, [], ap, ◌∙◌, rules}
use mir.Syntax.{w64}
use Rattle.std.proofs.lemmas.Int.{to_z-of_z}
use Rattle.std.proofs.lemmas.Result.{on_ok_weaker}
use Rattle.ql_call.specs.Elements.{without_name}
use Rattle.ql_call.specs.Operators.{changed_to}
use Rattle.ql_call.proofs.calls.push_stamped.Goals as goal

pub returns : goal.returns
returns c =
    let fits : SFits w64 c.seconds_of-value.result = search rules in
    let labels = c.args.element.now.0 in
    on_ok_weaker c.push.result
    (λ is. is ∙ ap (λ one. c.args.changed.now ++ one ∷ [])
    (c.in_ok-unnamed.ensures ∙ ap (changed_to labels (without_name labels)) (to_z-of_z w64 c.seconds_of-value.result fits ∙ c.seconds_of-value.ensures)))
    c.push.ensures.ok
