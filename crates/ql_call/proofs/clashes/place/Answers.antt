use Rattle.std.proofs.Common.{SFits, ap, ◌∙◌, rules}
use mir.Syntax.{w64}
use Rattle.std.proofs.lemmas.Int.{to_z-of_z}
use Rattle.std.proofs.lemmas.Result.{on_ok_weaker}
use Rattle.srv_store.specs.LabelMaps.{with_value}
use Rattle.ql_call.proofs.clashes.place.Goals as goal

pub returns : goal.returns
returns c =
    let fits : SFits w64 c.args.element.value = search rules in
    on_ok_weaker c.insert.result
    (λ is. is ∙ ap (with_value c.args.vector.now c.args.element.to) (to_z-of_z w64 c.args.element.value fits))
    c.insert.ensures.ok
