use Rattle.std.proofs.Common.{ap, sym, ◌∙◌}
use Rattle.std.proofs.lemmas.Result.{IfOk-weaker}
use Rattle.ql_call.specs.Clashes.{first_clash}
use Rattle.ql_call.specs.Matched as spec
use Rattle.ql_call.proofs.matching.many_clash.Goals as goal

pub returns : goal.returns
returns c =
    IfOk-weaker c.first_clash.result _ _
    (λ clash is. is ∙ ap first_clash (c.as_slice-2.ensures ∙ c.in_ok-rekeyed.ensures)
    ∙ ap (λ grouped. spec.many_clash grouped c.args.matching.now c.args.results.now) (sym c.if-is_grouped.false ∙ c.is_grouped.ensures))
    c.first_clash.ensures
