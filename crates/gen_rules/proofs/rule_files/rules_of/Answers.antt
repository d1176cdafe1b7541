-- Rules and trees are walked as far as both go.
use Rattle.std.proofs.Common.{◌∙◌, ap, map, sym, Bor}
use Rattle.std.proofs.lemmas.Iterator.{YieldsList-from_slice, YieldsList-from_zip}
use Rattle.std.proofs.lemmas.Iterator.Consumers.{YieldsList-end}
use Rattle.std.specs.Option.{option_copied}
use Rattle.cfg_types.specs.declared.config.Rule.{Rule}
use Rattle.kind_rules.specs.declared.rule.Rule.{Rule as WrittenRule}
use Rattle.ql_tree.specs.declared.tree.Expr.{Expr}
use Rattle.gen_rules.specs.RuleFiles as spec
use Rattle.gen_rules.proofs.ListLemmas.{map_twice}
use Rattle.gen_rules.proofs.rule_files.rules_of.Goals as goal

pub returns : goal.returns
returns c =
    let made : WrittenRule × Expr → Rule = spec.rule_of (option_copied c.args.enforced) c.args.namespace.now in
    let seen : Bor WrittenRule × Bor Expr → WrittenRule × Expr = λ pair. (pair.0.now, pair.1.now) in
    let end =
    YieldsList-end {s = c.into_iter-rule-iterator.result}
    (YieldsList-from_zip (YieldsList-from_slice c.args.rules.now cc) (YieldsList-from_slice c.args.trees.now cc))
    c.loop-rule.yielded c.loop-rule.rule-iterator c.loop-rule.yielded_by c.next.result c.next.new.self c.in-None.is c.next.ensures.steps in
    c.loop-rule.invariant ∙ sym (map_twice made seen c.loop-rule.yielded) ∙ ap (λ pairs. map made pairs) end.0
