use Rattle.std.proofs.Common.{◌≡◌, ◌++◌, sym, subst}
use Rattle.op_edges.specs.Steps.{MovesOn}
use Rattle.op_edges.proofs.ToldLemmas.{told_so}
use Rattle.op_edges.proofs.step.go_on.Goals as goal

pub returns-in-Ok-More-clause-says : goal.returns-in-Ok-More-clause-says
returns-in-Ok-More-clause-says g c =
    told_so (g.S.Source.left c.args.source.now) (g.S.Source.left c.fill.new.source)
    (λ before after. c.args.held.now.bytes ++ before ≡ c.fill.new.self.bytes ++ after)
    (λ before after. MovesOn c.args.passed c.pass_long.result.passed (c.args.held.now.bytes ++ before) (c.pass_long.new.held.bytes ++ after))
    (λ before after same. subst (λ l. MovesOn c.args.passed c.pass_long.result.passed l (c.pass_long.new.held.bytes ++ after)) (sym same)
    (c.pass_long.ensures.says after))
    c.in-Ok-More.ensures.told
