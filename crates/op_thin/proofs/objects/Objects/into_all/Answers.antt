use Rattle.std.proofs.Common.{List, sym, subst}
use Rattle.std.specs.List.{AllByRecursion}
use Rattle.op_thin.specs.declared.rule.ThinRule.{ThinRule}
use Rattle.op_thin.specs.Judged.{IsTyped}
use Rattle.op_thin.proofs.JudgedObjects.{judged_all}
use Rattle.op_thin.proofs.objects.Objects.into_all.Goals as goal

pub returns-clause-judged : goal.returns-clause-judged
returns-clause-judged c =
    subst (λ (rules : List ThinRule). AllByRecursion (λ rule. IsTyped rule.judged) rules) (sym c.in_ok-all_of.ensures)
    (judged_all _ c.self.invariant)
