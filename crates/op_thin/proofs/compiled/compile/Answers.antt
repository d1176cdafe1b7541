use Rattle.std.proofs.Common.{List, rules, ap, sym, subst}
use Rattle.std.specs.List.{AllByRecursion}
use Rattle.cfg_types.specs.Written.{HasSpans}
use Rattle.op_thin.specs.declared.rule.ThinRule.{ThinRule}
use Rattle.op_thin.specs.declared.probe.ThinProbe.{ThinProbe}
use Rattle.op_thin.specs.Judged.{IsTyped}
use Rattle.op_thin.specs.CompiledPatterns.{RulesHavePatterns}
use Rattle.op_thin.proofs.CompiledLemmas.{config_spans, rules_patterns}
use Rattle.op_thin.proofs.compiled.compile.Goals as goal

pub returns-clause-config : goal.returns-clause-config
returns-clause-config c = search rules

pub returns-clause-spans : goal.returns-clause-spans
returns-clause-spans c = subst HasSpans (sym (returns-clause-config c)) (config_spans c.args.objects)

pub returns-clause-rules : goal.returns-clause-rules
returns-clause-rules c =
    subst RulesHavePatterns (sym (returns-clause-config c))
    (rules_patterns c.args.objects
    (subst (λ (rules : List ThinRule). AllByRecursion (λ rule. IsTyped rule.judged) rules)
    (ap (λ (all : List ThinRule × List ThinProbe). all.0) c.in_ok-rules.ensures.all) c.in_ok-rules.ensures.judged))
