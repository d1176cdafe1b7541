-- The file is that of the object, and so no rule is lost.
use Rattle.std.proofs.Common.{◌≡◌, rules, sym, subst, arith}
use Rattle.std.specs.Option.{option_copied}
use Rattle.cfg_types.specs.declared.config.RuleFile.{RuleFile}
use Rattle.gen_rules.specs.RuleFiles.{file_counts, rule_counts}
use Rattle.gen_rules.proofs.CountLemmas.{counts_kept}
use Rattle.gen_rules.proofs.rule_files.rule_file.Goals as goal

pub returns-clause-file : goal.returns-clause-file
returns-clause-file c = search rules

pub returns-clause-whole : goal.returns-clause-whole
returns-clause-whole c =
    subst (λ (file : RuleFile). file_counts file ≡ rule_counts c.args.object.now) (sym (returns-clause-file c))
    (counts_kept (option_copied c.args.enforced) c.args.object.now.key.namespace c.args.object.now.groups c.args.trees.now
    (omega (arith, c.requires.trees)))
